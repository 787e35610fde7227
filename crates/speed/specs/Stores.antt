-- What the benchmark's work on a store is: records put one after another, and the bytes that covers then copy.
use Rattle.std.specs.Prelude.{◌≡◌, ℕ, zero, suc, ◌+◌, ◌/◌, min, Bool, List, [], ◌∷◌, length, Some, None, Option}
use Rattle.std.specs.Simd.{first_chunks}
use Rattle.store.specs.Meaning.{Bytes, after_put, found}

-- the greatest number of 32 bits
abbrev pub most : ℕ
most = 0xFFFF_FFFF

-- records put one after another lead from one list of records to another; which of them fit is left open
abbrev pub Fills : List Bytes → List Bytes → List Bytes → Type 0
Fills held [] after = held ≡ after
Fills held (r ∷ rs) after = (fits : Bool) × Fills (after_put fits held r) rs after

-- the bytes that a cover copies
abbrev pub size_of : Option Bytes → ℕ
size_of None = 0
size_of (Some r) = length r

-- the bytes that covers of the first n positions of queue 0 copy, as far as 32 bits count them
abbrev pub copied : List Bytes → ℕ → ℕ
copied held zero = 0
copied held (suc n) = min (copied held n + size_of (found 0 n held)) most

-- the records of one size that stand end to end are put, and every position up to the number held is covered
pub record Works (start : List Bytes) (records : List ℕ) (size result : ℕ) : Type 0 where
  pub held : List Bytes
  pub filled : Fills start (first_chunks size (length records / size) records) held
  pub copies : result ≡ copied held (min (min (length held) most + 1) most)
