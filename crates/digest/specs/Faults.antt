-- The refusals of this crate: each case with its number and its place; all are found by the digest.
use Rattle.std.specs.Prelude.{ℕ, List, ◌++◌, codes, decimal}
use Rattle.digest.specs.declared.fault.DigestFault.{DigestFault}
use Rattle.digest.specs.declared.fault.DigestFault.TheVariants.{MessageTooLong, KeyTooLong, ShortWorkingArea}

abbrev pub number_of : DigestFault → ℕ
number_of MessageTooLong = 1
number_of KeyTooLong = 1
number_of ShortWorkingArea = 5

-- 0 is the message, 1 the key; the working area has place 0
abbrev pub place_of : DigestFault → ℕ
place_of MessageTooLong = 0
place_of KeyTooLong = 1
place_of ShortWorkingArea = 0

abbrev pub finder_of : DigestFault → List ℕ
finder_of fault = codes "digest"

-- what is printed
abbrev pub shown_of : DigestFault → List ℕ
shown_of fault =
    codes "refused " ++ (decimal (number_of fault) ++ (codes " by " ++ (finder_of fault ++ (codes " at " ++ decimal (place_of fault)))))
