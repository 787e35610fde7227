-- What is left to read of a script and of a line.
use Rattle.std.specs.Prelude.{ℕ, List, length}
use Rattle.script.specs.declared.lines.Lines.{Lines}
use Rattle.script.specs.declared.words.Words.{Words}

-- the number of bytes that are left of a script
abbrev pub left : Lines → ℕ
left lines = length lines.rest.now

-- the bytes that are left of a line
abbrev pub line_left : Words → List ℕ
line_left words = words.rest.now
