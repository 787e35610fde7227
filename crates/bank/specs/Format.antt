-- A format of areas: how an area of bytes holds sixteen numbers, in sixteen parts of one size, a number in each.
use Rattle.std.specs.Prelude.{◌≡◌, ℕ, ◌*◌, ◌<◌, ◌≤◌, Bool, true, if◌then◌else◌, List, map, length, replicate, is_ok, Some, None, Option, slice_index}
use Rattle.std.specs.Simd.{first_chunks}
use Rattle.bank.specs.Bank.{counters, highest_limit, raising}
use Rattle.bank.specs.Parts.{part, with_part}

pub record Format : Type 0 where
  -- whether an area can be used
  pub usable : List ℕ → Bool
  -- the bytes of each part, by those of the area
  pub size : ℕ → ℕ
  -- the limit, by the bytes of a part
  pub limit : ℕ → ℕ
  -- the number that a part holds
  pub number : List ℕ → ℕ
  -- a part once it is raised to a number
  pub raised : List ℕ → ℕ → List ℕ

-- The bytes of each part of an area, if it can be used.
abbrev pub size_in : Format → List ℕ → Option ℕ
size_in f area = if f.usable area then Some (f.size (length area)) else None

-- The part of counter c.
abbrev pub part_of : Format → List ℕ → ℕ → List ℕ
part_of f area c = part (f.size (length area)) c area

-- The numbers that sixteen parts of s bytes hold.
unfoldable pub numbers_of : (List ℕ → ℕ) → ℕ → List ℕ → List ℕ
numbers_of number s area = map number (first_chunks s counters area)

-- What an area means as a bank; one that cannot be used means sixteen zeros and the limit 0.
abbrev pub numbers_by : Format → List ℕ → List ℕ
numbers_by f area = if f.usable area then numbers_of f.number (f.size (length area)) area else replicate counters 0

abbrev pub limit_by : Format → List ℕ → ℕ
limit_by f area = if f.usable area then f.limit (f.size (length area)) else 0

-- The area after a raise: the counter's part is raised, and a refusal changes nothing.
abbrev pub raised_by_format : Format → List ℕ → ℕ → ℕ → List ℕ
raised_by_format f area c to =
    if is_ok (raising (limit_by f area) (numbers_by f area) c to)
    then with_part (f.size (length area)) c area (f.raised (part_of f area c) to) else area

-- What an area that can be used is like: sixteen parts fill it, and no number is above the limit.
pub record Sixteen (f : Format) (area : List ℕ) : Type 0 where
  pub whole : f.size (length area) * counters ≡ length area
  pub within : (c : ℕ) → c < counters → slice_index (numbers_of f.number (f.size (length area)) area) c ≤ f.limit (f.size (length area))
  pub most : f.limit (f.size (length area)) ≤ highest_limit

-- What is known of a part that was raised: it is as long, it holds the new number, and an area that can be used
-- still can with it in a part's place.
pub record Holds (f : Format) (before : List ℕ) (to : ℕ) (after : List ℕ) : Type 0 where
  pub long : length after ≡ length before
  pub number : f.number after ≡ to
  pub usable : (area : List ℕ) (c : ℕ) → f.usable area ≡ true → c < counters → length after ≡ f.size (length area) → f.usable (with_part (f.size (length area)) c area after) ≡ true
