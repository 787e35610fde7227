use Rattle.std.proofs.Common.{fold, ap, ◌∙◌}
use Rattle.digest.specs.Sha256.{compressed, words}
use Rattle.digest.proofs.Blocks.{absorbed}
use Rattle.digest.proofs.sha256.absorb.Goals as goal

pub returns : goal.returns
returns c =
    record {
      answers = c.absorb_blocks.ensures.answers
          ∙ ap (fold (λ v b. compressed v (words b)) c.args.value) c.as_chunks.ensures.front
          ∙ absorbed c.args.value c.args.bytes.now;
    }
