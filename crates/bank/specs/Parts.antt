-- An area cut into equal parts, one for each counter.
use Rattle.std.specs.Prelude.{ℕ, ◌+◌, ◌*◌, List, ◌++◌, take, drop}

-- The part of counter c, where each has s bytes.
abbrev pub part : ℕ → ℕ → List ℕ → List ℕ
part s c area = take s (drop (s * c) area)

-- The area with other bytes in the part of counter c.
abbrev pub with_part : ℕ → ℕ → List ℕ → List ℕ → List ℕ
with_part s c area bytes = take (s * c) area ++ (bytes ++ drop (s * c + s) area)
