use Rattle.std.proofs.Common.{◌≡◌, length, rules}
use Rattle.digest.specs.Bytes.{Bytes}
use Rattle.digest.specs.Constants.{initial}
use Rattle.digest.proofs.Tags.{finished}
use Rattle.digest.proofs.hmac.ShortKey.keyed_digest.Goals as goal

pub returns : goal.returns
unfolding initial
returns c =
    let block : Bytes = c.mask_into.new.block in
    let e : length block ≡ 64 = search rules in
    record {
      answers = finished c.compress.result block _ c.args.text.now c.finish.result e c.compress.ensures.answers
          c.mask_into.ensures.area c.finish.ensures.answers;
    }
