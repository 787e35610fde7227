-- The tally bank: an area of sixteen regions, each of the same size.
use Rattle.std.specs.Prelude.{◌≡◌, ℕ, ◌-◌, ◌*◌, ◌/◌, ◌%◌, Bool, ◌&&◌, List, length, ◌==◌, nat_le, nat_lt}
use Rattle.bank.specs.Bank.{counters}
use Rattle.bank.specs.Format.{Format, numbers_of, numbers_by, limit_by, raised_by_format}
use Rattle.bank.specs.Parts.{part}
use Rattle.bank.specs.Tally.{longest_region, bits_in, tally, raised_by, Clears}

-- The most bytes of an area.
abbrev pub longest_area : ℕ
longest_area = counters * longest_region

-- An area that can be used: sixteen regions of 1 to 4,096 bytes, and nothing more.
unfoldable pub tally_area : List ℕ → Bool
tally_area area = length area % counters == 0 && (nat_lt 0 (length area) && nat_le (length area) longest_area)

-- The bytes of each region.
abbrev pub size_of : List ℕ → ℕ
size_of area = length area / counters

-- The region of counter c.
abbrev pub region_of : List ℕ → ℕ → List ℕ
region_of area c = part (size_of area) c area

-- The sixteen numbers that regions of s bytes hold.
abbrev pub tallies : ℕ → List ℕ → List ℕ
tallies s area = numbers_of tally s area

-- A raised region has the bits cleared that are missing, of eight to a byte.
abbrev pub tally_format : Format
tally_format =
    record {
      usable = tally_area;
      size = λ n. n / counters;
      limit = λ s. 8 * s;
      number = tally;
      raised = λ region to. raised_by (to - tally region) region;
    }

-- What the area means as a bank; one that cannot be used means sixteen zeros and the limit 0.
abbrev pub numbers_in : List ℕ → List ℕ
numbers_in area = numbers_by tally_format area

abbrev pub limit_of : List ℕ → ℕ
limit_of area = limit_by tally_format area

-- The area after a raise: the counter's region is raised by what is missing, and a refusal changes nothing.
abbrev pub area_raised : List ℕ → ℕ → ℕ → List ℕ
area_raised area c to = raised_by_format tally_format area c to

-- The law of a raise: the count of zero bits is then the new number, and the bits that made it so are the first
-- that were 1.
pub record Raises (before after : List ℕ) (to : ℕ) : Type 0 where
  pub counted : tally after ≡ to
  pub clears : Clears (to - tally before) (bits_in before) (bits_in after)
