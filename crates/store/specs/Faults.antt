-- What each fault of a store is told as: its number, its place and who found it.
use Rattle.std.specs.Prelude.{ℕ, List, ◌++◌, codes, decimal}
use Rattle.store.specs.declared.fault.StoreFault.{StoreFault}
use Rattle.store.specs.declared.fault.StoreFault.TheVariants.{BadRecord, AlreadySpanned, DoesNotFit, WrongArea, ShortArea}

abbrev pub number_of : StoreFault → ℕ
number_of BadRecord = 7
number_of (AlreadySpanned c) = 8
number_of (DoesNotFit c) = 9
number_of WrongArea = 6
number_of ShortArea = 15

-- the counter of the record, or 0
abbrev pub place_of : StoreFault → ℕ
place_of BadRecord = 0
place_of (AlreadySpanned c) = c
place_of (DoesNotFit c) = c
place_of WrongArea = 0
place_of ShortArea = 0

abbrev pub finder_of : StoreFault → List ℕ
finder_of BadRecord = codes "store"
finder_of (AlreadySpanned c) = codes "store"
finder_of (DoesNotFit c) = codes "store"
finder_of WrongArea = codes "store"
finder_of ShortArea = codes "store"

-- what is printed of it, as in 'refused 8 by store at 3'
abbrev pub shown_of : StoreFault → List ℕ
shown_of fault =
    codes "refused " ++ (decimal (number_of fault) ++ (codes " by " ++ (finder_of fault ++ (codes " at " ++ decimal (place_of fault)))))
