use Rattle.std.proofs.Common.{◌-◌}
use Rattle.store.specs.Meaning.{stays}
use Rattle.logstore.proofs.Compacting.{Compacting}
use Rattle.logstore.proofs.edit.compact.Given as goal

abbrev pub invariant-loop : goal.invariant-loop
invariant-loop l =
    Compacting (stays l.queue l.below) l.initial.area l.held.count l.area l.at l.kept.used l.kept.count (l.held.count - l.counter)
