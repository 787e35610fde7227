use Rattle.std.proofs.Common.{refl}
use Rattle.digest.specs.Constants.{initial}
use Rattle.digest.specs.Sha256.{padding, padded, block, words, parsed, next_word, extended, schedule, round, rounds, summed, compressed, sha256}
use Rattle.digest.specs.Hmac.{key_block, masked, hmac}
use Rattle.digest.proofs.examples.published_examples_hold.Goals as goal

pub returns : goal.returns
unfolding
    initial padding padded block words parsed next_word extended schedule round rounds summed compressed sha256 key_block masked hmac
returns c = record { answers = record { empty = refl; abc = refl; two_blocks = refl; short_key = refl } }
