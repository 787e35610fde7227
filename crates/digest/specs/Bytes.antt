-- Byte strings, and numbers written as bytes, the most significant first.
use Rattle.std.specs.Prelude.{ℕ, ◌+◌, ◌*◌, ◌/◌, ◌%◌, List, [], ◌∷◌, slice_index}

-- a byte string: a list of numbers below 256
abbrev pub Bytes : Type 0
Bytes = List ℕ

-- the number in the first four bytes
abbrev pub number4 : Bytes → ℕ
number4 bs = slice_index bs 0 * 16777216 + slice_index bs 1 * 65536 + slice_index bs 2 * 256 + slice_index bs 3

-- a number below 2^32 in four bytes
abbrev pub bytes4 : ℕ → Bytes
bytes4 n = (n / 16777216 % 256) ∷ (n / 65536 % 256) ∷ (n / 256 % 256) ∷ (n % 256) ∷ []

-- a number below 2^64 in eight bytes
abbrev pub bytes8 : ℕ → Bytes
bytes8 n =
    (n / 72057594037927936 % 256) ∷ (n / 281474976710656 % 256) ∷ (n / 1099511627776 % 256) ∷ (n / 4294967296 % 256)
    ∷ (n / 16777216 % 256) ∷ (n / 65536 % 256) ∷ (n / 256 % 256) ∷ (n % 256) ∷ []
