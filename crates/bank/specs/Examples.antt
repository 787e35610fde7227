-- Worked examples of the tally bank, over sixteen regions of one byte each.
use Rattle.std.specs.Prelude.{◌≡◌, ℕ, List, ◌∷◌, replicate, Ok, Err, Result}
use Rattle.bank.specs.declared.fault.BankFault.{BankFault}
use Rattle.bank.specs.declared.fault.BankFault.TheVariants.{NotHigher, AboveLimit}
use Rattle.bank.specs.Bank.{raising}
use Rattle.bank.specs.Faults.{number_of}
use Rattle.bank.specs.TallyArea.{numbers_in, limit_of, area_raised}

-- Counter 0 has this byte, and no other counter has been raised.
abbrev pub first_byte : ℕ → List ℕ
first_byte b = b ∷ replicate 15 0xff

-- What raising counter 0 of it answers.
abbrev pub answer : ℕ → ℕ → Result (Unit {0}) BankFault
answer b to = raising (limit_of (first_byte b)) (numbers_in (first_byte b)) 0 to

pub record Examples : Type 0 where
  pub ff_raised_to_3_is_1f : area_raised (first_byte 0xff) 0 3 ≡ first_byte 0x1f
  pub f0_raised_to_4_is_refused : answer 0xf0 4 ≡ Err (NotHigher 0)
  pub not_higher_is_3 : number_of (NotHigher 0) ≡ 3
  pub one_byte_takes_8 : answer 0xff 8 ≡ Ok tt
  pub one_byte_refuses_9 : answer 0xff 9 ≡ Err (AboveLimit 0)
  pub above_limit_is_4 : number_of (AboveLimit 0) ≡ 4
