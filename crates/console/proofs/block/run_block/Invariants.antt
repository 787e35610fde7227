use Rattle.std.proofs.Common.{◌≤◌}
use Rattle.script.specs.Left.{left}
use Rattle.console.proofs.block.run_block.Given as goal

abbrev pub invariant-loop-line : goal.invariant-loop-line
invariant-loop-line g l = goal.F-IsAlwaysCallable g l.run_line × (left l.lines ≤ left l.initial.lines)

abbrev pub decreases-loop-line : goal.decreases-loop-line
decreases-loop-line g l = left l.lines
