use Rattle.std.proofs.Common.{◌≡◌, ◌-◌}
use Rattle.bank.specs.Tally.{cleared}
use Rattle.bank.proofs.tally.clear_each.Given as goal

abbrev pub invariant-loop : goal.invariant-loop
invariant-loop l = cleared (l.many - l.counter) l.rest ≡ cleared l.many l.byte
