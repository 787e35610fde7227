use Rattle.std.proofs.Common.{◌≡◌, ℕ, ◌<◌, [], length, get_or, w32}
use Rattle.std.specs.Int.{from_be_bytes}
use Rattle.digest.proofs.compress.block_words.Given as goal

abbrev pub invariant-loop-i : goal.invariant-loop-i
invariant-loop-i l = (length l.words ≡ 16) × ((k : ℕ) → k < l.i → get_or l.words k 0 ≡ from_be_bytes w32 (get_or l.fours k []))
