-- What a raise that is accepted tells, for any bank.
use Rattle.std.proofs.Common.{◌≡◌, ℕ, true, List, is_ok, Ok, arith}
use Rattle.std.proofs.lemmas.Bool.Decides.{nat_tests}
use Rattle.bank.specs.Bank.{MayRaise, raising}

pub accepted : (limit : ℕ) (numbers : List ℕ) (c to : ℕ) → is_ok (raising limit numbers c to) ≡ true → MayRaise limit numbers c to
accepted limit numbers c to e = record { counter = grind (arith, nat_tests); higher = grind (arith, nat_tests); within = grind (arith, nat_tests) }

-- a raise is accepted where nothing speaks against it
pub raises : (limit : ℕ) (numbers : List ℕ) (c to : ℕ) → MayRaise limit numbers c to → raising limit numbers c to ≡ Ok tt
raises limit numbers c to a = grind (arith, nat_tests)
