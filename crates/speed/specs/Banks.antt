-- What the benchmark's entry points to a bank answer.
use Rattle.std.specs.Prelude.{ℕ, Ok, Err, Result}
use Rattle.bank.specs.declared.fault.BankFault.{BankFault}
use Rattle.bank.specs.Faults.{number_of}

-- what stands for a refusal where a number is answered
abbrev pub refused : ℕ
refused = 0x1_0000_0000

abbrev pub number_or : Result ℕ BankFault → ℕ
number_or (Ok n) = n
number_or (Err fault) = refused

abbrev pub code : Result (Unit {0}) BankFault → ℕ
code (Ok u) = 0
code (Err fault) = number_of fault
