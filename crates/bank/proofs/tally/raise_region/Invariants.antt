use Rattle.std.proofs.Common.{◌≡◌, ◌++◌, take, drop}
use Rattle.bank.specs.Tally.{raised_by}
use Rattle.bank.proofs.tally.raise_region.Given as goal

abbrev pub invariant-loop-byte : goal.invariant-loop-byte
invariant-loop-byte l = take l.byte-index l.region ++ raised_by l.left (drop l.byte-index l.region) ≡ raised_by l.by l.initial.region
