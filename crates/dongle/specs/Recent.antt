-- The statements that the second dongle keeps.
use Rattle.std.specs.Prelude.{ℕ, List, ◌∷◌, take, Ok, Err, Result}
use Rattle.statement.specs.declared.types.SignedStatement.{SignedStatement}
use Rattle.dongle.specs.declared.fault.DongleFault.{DongleFault}
use Rattle.dongle.specs.declared.second.SecondDongle.{SecondDongle}

-- the dongle below
abbrev pub dongle_in : {D : Type 0} → SecondDongle D → D
dongle_in second = second.inner

-- those that are kept, the newest first
abbrev pub kept_in : {D : Type 0} → SecondDongle D → List SignedStatement
kept_in second = second.recent.items

-- how many are kept at most
abbrev pub most_kept : ℕ
most_kept = 8

-- one more in front, and of nine the eight newest
abbrev pub with_newest : SignedStatement → List SignedStatement → List SignedStatement
with_newest newest kept = take most_kept (newest ∷ kept)

-- what is kept after attest: a statement that it issued is the newest, and a refusal changes nothing
abbrev pub kept_after : Result SignedStatement DongleFault → List SignedStatement → List SignedStatement
kept_after (Ok signed) kept = with_newest signed kept
kept_after (Err fault) kept = kept
