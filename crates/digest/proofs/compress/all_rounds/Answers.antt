use Rattle.std.proofs.Common.{◌≡◌, ℕ, ◌/◌, length, fold, refl, ap, ◌∙◌, arith, rules}
use Rattle.std.specs.List.{zip}
use Rattle.std.specs.Simd.{first_chunks}
use Rattle.digest.specs.Constants.{K}
use Rattle.digest.specs.Sha256.{round}
use Rattle.digest.specs.Words.{Words}
use Rattle.digest.proofs.Folded.{folded_pairs}
use Rattle.digest.proofs.Schedule.{all_zipped, by_chunks}
use Rattle.digest.proofs.compress.all_rounds.Goals as goal

pub returns : goal.returns
returns c =
    let g : Words → ℕ × ℕ → Words = λ v step. round step.0 step.1 v in
    let chunk : Words → Words × Words → Words = λ v step. fold g v (zip step.0 step.1) in
    let ws : Words = c.args.schedule.now in
    let many : length ws / 8 ≡ 8 = omega arith in
    let chunks = c.as_chunks-2.ensures.front ∙ ap (λ n. first_chunks 8 n ws) many in
    let folded = folded_pairs chunk _ _ (λ a x b f' k. (search rules, refl))
    c.zip.result (first_chunks 8 8 K) (first_chunks 8 8 ws) (cc) (cc) _ _ c.fold.ensures.ran in
    record { answers = folded ∙ by_chunks g c.args.value 8 K ws refl ∙ all_zipped ws c.args.value c.told-schedule }
