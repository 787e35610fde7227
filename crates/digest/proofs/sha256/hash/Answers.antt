use Rattle.std.proofs.Common.{◌++◌, length, fold, ap, ◌∙◌, zero-add}
use Rattle.std.specs.List.{flat_map}
use Rattle.digest.specs.Bytes.{Bytes, bytes4}
use Rattle.digest.specs.Constants.{initial}
use Rattle.digest.specs.Sha256.{padding, padded, parsed, compressed, sha256}
use Rattle.digest.proofs.sha256.hash.Goals as goal

pub returns : goal.returns
unfolding sha256 padded initial
returns c =
    let m : Bytes = c.args.message.now in
    record {
      answers = c.finish.ensures.answers
          ∙ ap (λ n. flat_map bytes4 (fold compressed initial (parsed (m ++ padding n)))) (zero-add (length m));
    }
