-- The lines of a text and the words of a line.
use Rattle.std.specs.Prelude.{ℕ, ◌+◌, Bool, true, false, not, if◌then◌else◌, List, [], ◌∷◌, take, drop, ◌==◌}
use Rattle.std.specs.List.{prefix_len}

-- how many bytes at the front are the mark
abbrev pub run_len : ℕ → List ℕ → ℕ
run_len mark text = prefix_len (λ c. c == mark) text

-- how many bytes stand before the first mark
abbrev pub len_before : ℕ → List ℕ → ℕ
len_before mark text = prefix_len (λ c. not (c == mark)) text

-- the first line of a text, which a line feed ends, and what follows the line feed
abbrev pub first_line : List ℕ → List ℕ
first_line text = take (len_before 10 text) text

abbrev pub after_line : List ℕ → List ℕ
after_line text = drop (len_before 10 text + 1) text

-- a line without the spaces at its front
abbrev pub trimmed : List ℕ → List ℕ
trimmed line = drop (run_len 32 line) line

-- the first word of a line, which a space ends, and what follows
abbrev pub first_word : List ℕ → List ℕ
first_word line = take (len_before 32 (trimmed line)) (trimmed line)

abbrev pub after_word : List ℕ → List ℕ
after_word line = drop (len_before 32 (trimmed line)) (trimmed line)

-- how many words begin in a line, of which the first may have begun before it
abbrev pub words_in : Bool → List ℕ → ℕ
words_in inside [] = 0
words_in inside (c ∷ line) = if c == 32 then words_in false line else (if inside then 0 else 1) + words_in true line
