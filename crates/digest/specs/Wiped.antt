-- What a working area holds after a call: its first 64 bytes are zero, and an area under 64 bytes is as it was.
use Rattle.std.specs.Prelude.{ℕ, if◌then◌else◌, ◌++◌, length, drop, replicate, nat_lt}
use Rattle.digest.specs.Bytes.{Bytes}
use Rattle.digest.specs.Sizes.{block_size}

-- how many bytes of an area of the given room are used and wiped
abbrev pub used : ℕ → ℕ
used room = if nat_lt room block_size then 0 else block_size

unfoldable pub wiped : Bytes → Bytes
wiped area = if nat_lt (length area) block_size then area else replicate block_size 0 ++ drop block_size area
