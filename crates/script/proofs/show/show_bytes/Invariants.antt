use Rattle.std.proofs.Common.{◌≡◌, ◌++◌, vec_items}
use Rattle.std.specs.Slice.Iter.{chunk_by_rest}
use Rattle.script.specs.Shown.{stretches, shown_from}
use Rattle.script.proofs.show.show_bytes.Given as goal

abbrev pub invariant-loop-run : goal.invariant-loop-run
invariant-loop-run l =
    vec_items l.out ++ shown_from l.before (stretches (chunk_by_rest l.run-iterator))
    ≡ vec_items l.initial.out ++ shown_from l.initial.before (stretches l.bytes)
