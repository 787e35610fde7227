use Rattle.dongle.proofs.Runs.{monotonic_without_equivocation}
use Rattle.dongle.proofs.laws.counters_are_monotonic_without_equivocation.Goals as goal

pub returns : goal.returns
returns c = record { promises = monotonic_without_equivocation }
