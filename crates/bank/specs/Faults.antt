-- What each fault of a bank is told as: its number, its place and who found it.
use Rattle.std.specs.Prelude.{ℕ, List, ◌++◌, codes, decimal}
use Rattle.bank.specs.declared.fault.BankFault.{BankFault}
use Rattle.bank.specs.declared.fault.BankFault.TheVariants.{NoCounter, NotHigher, AboveLimit, WrongArea}

abbrev pub number_of : BankFault → ℕ
number_of (NoCounter c) = 2
number_of (NotHigher c) = 3
number_of (AboveLimit c) = 4
number_of WrongArea = 6

-- The counter asked for, also one above 15, 0 for an area: what is printed of a fault always names a place.
abbrev pub place_of : BankFault → ℕ
place_of (NoCounter c) = c
place_of (NotHigher c) = c
place_of (AboveLimit c) = c
place_of WrongArea = 0

-- Not `finder_of _`: the proof of the printed text did not close over it.
abbrev pub finder_of : BankFault → List ℕ
finder_of (NoCounter c) = codes "bank"
finder_of (NotHigher c) = codes "bank"
finder_of (AboveLimit c) = codes "bank"
finder_of WrongArea = codes "bank"

-- What is printed of it, as in 'refused 2 by bank at 16'.
abbrev pub shown_of : BankFault → List ℕ
shown_of fault =
    codes "refused " ++ (decimal (number_of fault) ++ (codes " by " ++ (finder_of fault ++ (codes " at " ++ decimal (place_of fault)))))
