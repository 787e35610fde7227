-- The refusals of this crate: each case with its number, its place and its finder.
use Rattle.std.specs.Prelude.{ℕ, List, ◌++◌, codes, decimal}
use Rattle.bank.specs.Faults as bank
use Rattle.dongle.specs.declared.fault.DongleFault.{DongleFault}
use Rattle.dongle.specs.declared.fault.DongleFault.TheVariants.{ShortWorkingArea, Bank}

abbrev pub number_of : DongleFault → ℕ
number_of ShortWorkingArea = 5
number_of (Bank fault) = bank.number_of fault

abbrev pub place_of : DongleFault → ℕ
place_of ShortWorkingArea = 0
place_of (Bank fault) = bank.place_of fault

abbrev pub finder_of : DongleFault → List ℕ
finder_of ShortWorkingArea = codes "dongle"
finder_of (Bank fault) = bank.finder_of fault

-- what is printed, as in 'refused 2 by bank at 16'
abbrev pub shown_of : DongleFault → List ℕ
shown_of fault =
    codes "refused " ++ (decimal (number_of fault) ++ (codes " by " ++ (finder_of fault ++ (codes " at " ++ decimal (place_of fault)))))
