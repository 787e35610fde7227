use Rattle.std.proofs.Common.{◌≡◌, ◌-◌, ◌≤◌, length, take}
use Rattle.digest.specs.Sha256.{extended}
use Rattle.digest.proofs.compress.message_schedule.Given as goal

abbrev pub invariant-loop-t : goal.invariant-loop-t
invariant-loop-t l = record { size : length l.w ≡ 64; from : 16 ≤ l.t; made : take l.t l.w ≡ extended (l.t - 16) l.fn.block }
