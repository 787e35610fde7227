use Rattle.std.proofs.Common.{ℕ, refl, rules}
use Rattle.digest.specs.Sha256.{round}
use Rattle.digest.specs.Words.{Words}
use Rattle.digest.proofs.Folded.{folded_pairs}
use Rattle.digest.proofs.compress.chunk_of_rounds.Goals as goal

pub returns : goal.returns
returns c =
    let g : Words → ℕ × ℕ → Words = λ v step. round step.0 step.1 v in
    record {
      answers = folded_pairs g _ _ (λ a x b f' k. (search rules, refl))
          c.zip.result c.args.step.0.now c.args.step.1.now (cc) (cc) _ _ c.fold.ensures.ran;
    }
