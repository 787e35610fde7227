use Rattle.std.proofs.Common.{◌≤◌, vec_len}
use Rattle.script.specs.Bytes.{most_bytes}
use Rattle.script.proofs.bytes.read_bytes.Given as goal

abbrev pub invariant-loop-part : goal.invariant-loop-part
invariant-loop-part l = vec_len l.out ≤ most_bytes
