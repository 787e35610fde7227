use Rattle.std.proofs.Common.{◌≡◌, ◌++◌, map, take, drop}
use lib.Bits.{bit_xor}
use Rattle.digest.specs.Hmac.{key_block}
use Rattle.digest.proofs.hmac.ShortKey.mask_into.Given as goal

abbrev pub invariant-loop-byte : goal.invariant-loop-byte
invariant-loop-byte l =
    l.block ≡ map (λ byte. bit_xor byte l.pad) (take l.byte-index (key_block l.self.bytes.now)) ++ drop l.byte-index (key_block l.self.bytes.now)
