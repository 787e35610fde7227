-- What each fault of a reader is told as: its number, its place and who found it.
use Rattle.std.specs.Prelude.{ℕ, List, ◌++◌, codes, decimal}
use Rattle.reader.specs.declared.fault.ReaderFault.{ReaderFault}
use Rattle.reader.specs.declared.fault.ReaderFault.TheVariants.{NoQueue, PositionZero, ShortWorkingArea, WrongLength, WrongForm, WrongTag, WrongOrigin, WrongNonce, WrongNumbers, WrongDigest}

abbrev pub number_of : ReaderFault → ℕ
number_of ShortWorkingArea = 5
number_of (NoQueue q) = 10
number_of (PositionZero q) = 14
number_of WrongLength = 16
number_of WrongForm = 17
number_of (WrongTag i) = 18
number_of (WrongOrigin i) = 19
number_of (WrongNonce i) = 20
number_of (WrongNumbers i) = 21
number_of (WrongDigest i) = 22

-- the queue of a challenge, the statement of an answer counted from 0, else 0
abbrev pub place_of : ReaderFault → ℕ
place_of ShortWorkingArea = 0
place_of (NoQueue q) = q
place_of (PositionZero q) = q
place_of WrongLength = 0
place_of WrongForm = 0
place_of (WrongTag i) = i
place_of (WrongOrigin i) = i
place_of (WrongNonce i) = i
place_of (WrongNumbers i) = i
place_of (WrongDigest i) = i

abbrev pub finder_of : ReaderFault → List ℕ
finder_of _ = codes "reader"

-- what is printed, as in 'refused 16 by reader at 0'
abbrev pub shown_of : ReaderFault → List ℕ
shown_of fault =
    codes "refused " ++ (decimal (number_of fault) ++ (codes " by " ++ (finder_of fault ++ (codes " at " ++ decimal (place_of fault)))))
