-- The word bank: an area of 64 bytes holds sixteen numbers of 32 bits, the most significant byte first.
use Rattle.std.specs.Prelude.{ℕ, ◌*◌, Bool, ◌&&◌, List, length, ◌==◌, nat_le}
use Rattle.std.specs.List.{list_all}
use Rattle.std.specs.Int.{w32, from_be_bytes, to_be_bytes}
use Rattle.bank.specs.Bank.{counters, highest_limit}
use Rattle.bank.specs.Format.{Format, numbers_of, numbers_by, limit_by, raised_by_format}

-- The bytes of a word, and of sixteen of them.
abbrev pub word_size : ℕ
word_size = 4

abbrev pub words_size : ℕ
words_size = counters * word_size

-- The sixteen numbers that an area of 64 bytes holds.
abbrev pub words : List ℕ → List ℕ
words area = numbers_of (from_be_bytes w32) word_size area

-- An area that can be used: it has 64 bytes, and no word is above the highest limit.
unfoldable pub word_area : List ℕ → Bool
word_area area = length area == words_size && list_all (λ n. nat_le n highest_limit) (words area)

abbrev pub word_format : Format
word_format =
    record {
      usable = word_area;
      size = λ _. word_size;
      limit = λ _. highest_limit;
      number = from_be_bytes w32;
      raised = λ _ to. to_be_bytes w32 to;
    }

-- What the area means as a bank; one that cannot be used means sixteen zeros and the limit 0.
abbrev pub numbers_in : List ℕ → List ℕ
numbers_in area = numbers_by word_format area

abbrev pub limit_of : List ℕ → ℕ
limit_of area = limit_by word_format area

-- The area after a raise: the counter's four bytes are the new number's, and a refusal changes nothing.
abbrev pub area_raised : List ℕ → ℕ → ℕ → List ℕ
area_raised area c to = raised_by_format word_format area c to
