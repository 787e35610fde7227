-- The trinket that the first dongle is.
use Rattle.std.specs.Prelude.{◌≡◌, ℕ, List, length}
use Rattle.bank.specs.Bank.{counters}
use Rattle.dongle.specs.Trinket.{Trinket, Whole}

abbrev pub trinket_over : List ℕ → List ℕ → List ℕ → Trinket
trinket_over identity key numbers = record { identity = identity; key = key; numbers = numbers }

-- it is whole over an identity and a key of the right length and sixteen numbers
pub whole_over : (identity key numbers : List ℕ) → length identity ≡ 8 → length key ≡ 32 → length numbers ≡ counters → Whole (trinket_over identity key numbers)
whole_over identity key numbers identity_bytes key_bytes sixteen =
    record { identity_bytes = identity_bytes; key_bytes = key_bytes; sixteen = sixteen }
