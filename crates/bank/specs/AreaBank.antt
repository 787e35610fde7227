-- The bytes that a bank stands over.
use Rattle.std.specs.Prelude.{ℕ, List}
use Rattle.bank.specs.declared.area_bank.AreaBank.{AreaBank}

abbrev pub area_of : {F : Type 0} {members : _} → AreaBank F members → List ℕ
area_of bank = bank.area.now
