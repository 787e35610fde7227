-- Decimal numbers.
use Rattle.std.specs.Prelude.{ℕ, ◌+◌, ◌-◌, ◌*◌, Bool, if◌then◌else◌, ◌&&◌, List, length, Ok, Err, fold, Result, nat_le, nat_lt}
use Rattle.std.specs.List.{list_all}
use Rattle.script.specs.declared.bad.Bad.{Bad}
use Rattle.script.specs.declared.bad.Bad.TheVariants.{Number, Range}

abbrev pub is_digit : ℕ → Bool
is_digit c = nat_le 48 c && nat_le c 57

-- a number with one digit more at its end
abbrev pub digit_more : ℕ → ℕ → ℕ
digit_more n c = 10 * n + (c - 48)

-- the number that a row of digits says
abbrev pub decimal_value : List ℕ → ℕ
decimal_value word = fold digit_more 0 word

-- a word of one or more digits and nothing else
abbrev pub all_digits : List ℕ → Bool
all_digits word = nat_lt 0 (length word) && list_all is_digit word

unfoldable pub number_in : List ℕ → ℕ → Result ℕ Bad
number_in word most =
    if all_digits word
    then (if nat_le (decimal_value word) most then Ok (decimal_value word) else Err Range)
    else Err Number
