-- A tally: a counter's number is the count of zero bits in its region, and a raise clears bits.
use Rattle.std.specs.Prelude.{◌≡◌, ℕ, zero, suc, ◌+◌, ◌-◌, ◌*◌, ◌/◌, ◌%◌, if◌then◌else◌, ◌⊎◌, List, [], ◌∷◌, ◌++◌, length, take, drop, replicate, ◌==◌, slice_index}

-- The most bytes of a region.
abbrev pub longest_region : ℕ
longest_region = 4096

-- The bits of a byte, the most significant first.
abbrev pub bits : ℕ → List ℕ
bits b =
    b / 128 % 2 ∷ b / 64 % 2 ∷ b / 32 % 2 ∷ b / 16 % 2 ∷ b / 8 % 2 ∷ b / 4 % 2 ∷ b / 2 % 2 ∷ b % 2 ∷ []

-- The number that bits stand for, the most significant first, after those that stand for n.
abbrev pub value_after : ℕ → List ℕ → ℕ
value_after n [] = n
value_after n (x ∷ xs) = value_after (2 * n + x) xs

-- The bits of a region, the lowest byte first.
unfoldable pub bits_in : List ℕ → List ℕ
bits_in [] = []
bits_in (b ∷ bs) = bits b ++ bits_in bs

-- How many of some bits are 0, and how many are 1.
unfoldable pub zeros : List ℕ → ℕ
zeros [] = 0
zeros (x ∷ xs) = (if x == 0 then 1 else 0) + zeros xs

unfoldable pub ones : List ℕ → ℕ
ones [] = 0
ones (x ∷ xs) = x + ones xs

-- The number of a region.
abbrev pub tally : List ℕ → ℕ
tally region = zeros (bits_in region)

-- The first m bits that are still 1 become 0.
unfoldable pub clear : ℕ → List ℕ → List ℕ
clear m [] = []
clear zero (x ∷ xs) = x ∷ xs
clear (suc m) (x ∷ xs) = 0 ∷ clear (suc m - x) xs

-- A byte once its next bit is cleared: of those that are still 1, the most significant.
unfoldable pub next_cleared : ℕ → ℕ
unfolding clear
next_cleared b = value_after 0 (clear 1 (bits b))

-- A byte once its next m bits are cleared, one after another.
unfoldable pub cleared : ℕ → ℕ → ℕ
cleared zero b = b
cleared (suc m) b = cleared m (next_cleared b)

-- A region raised by m: each byte has its bits cleared, as long as some of the m are left.
unfoldable pub raised_by : ℕ → List ℕ → List ℕ
raised_by m [] = []
raised_by m (b ∷ bs) = cleared m b ∷ raised_by (m - ones (bits b)) bs

-- What it is to clear the first m bits that are still 1. The count of zeros rises by m, only 1 goes to 0,
-- up to some place every bit is 0 then, and from there on none has changed.
pub record Clears (m : ℕ) (before after : List ℕ) : Type 0 where
  pub long : length after ≡ length before
  pub counts : zeros after ≡ zeros before + m
  pub falls : (k : ℕ) → (slice_index after k ≡ slice_index before k) ⊎ ((slice_index before k ≡ 1) × (slice_index after k ≡ 0))
  pub place : ℕ
  pub front : take place after ≡ replicate place 0
  pub back : drop place after ≡ drop place before
