-- What the calls answer: the refusals in the order in which they are tried, then the digest or the tag.
use Rattle.std.specs.Prelude.{ℕ, if◌then◌else◌, length, Ok, Err, Result, nat_lt}
use Rattle.digest.specs.declared.fault.DigestFault.{DigestFault}
use Rattle.digest.specs.declared.fault.DigestFault.TheVariants.{MessageTooLong, KeyTooLong, ShortWorkingArea}
use Rattle.digest.specs.Bytes.{Bytes}
use Rattle.digest.specs.Sizes.{block_size, longest}
use Rattle.digest.specs.Sha256.{sha256}
use Rattle.digest.specs.Hmac.{hmac}

abbrev pub digesting : Bytes → Result Bytes DigestFault
digesting message = if nat_lt longest (length message) then Err MessageTooLong else Ok (sha256 message)

-- a tag over a message with a working area of the given room
abbrev pub tagging : Bytes → Bytes → ℕ → Result Bytes DigestFault
tagging key message room =
    if nat_lt longest (length message) then Err MessageTooLong
    else if nat_lt longest (length key) then Err KeyTooLong
    else if nat_lt room block_size then Err ShortWorkingArea
    else Ok (hmac key message)
