-- Byte strings as they are printed.
use Rattle.std.specs.Prelude.{ℕ, ◌+◌, ◌/◌, ◌%◌, if◌then◌else◌, List, [], ◌∷◌, ◌++◌, replicate, decimal, ◌==◌, nat_le, nat_lt, Option, None, Some}
use Rattle.std.specs.List.{flat_map}
use Rattle.script.specs.declared.show.RunForm.{RunForm}
use Rattle.script.specs.declared.show.RunForm.TheVariants.{Plain, Counted}

-- a run of equal bytes: the byte, and how often it stands
pub record Stretch : Type 0 where
  pub byte : ℕ
  pub times : ℕ

abbrev pub stretch : ℕ → ℕ → Stretch
stretch byte times = record { byte = byte; times = times }

-- one byte more in front of some runs
abbrev pub lengthened : ℕ → List Stretch → List Stretch
lengthened x [] = stretch x 1 ∷ []
lengthened x (g ∷ gs) =
    if x == g.byte then stretch x (1 + g.times) ∷ gs else stretch x 1 ∷ g ∷ gs

-- the longest runs of a byte string, in their order
abbrev pub stretches : List ℕ → List Stretch
stretches [] = []
stretches (x ∷ xs) = lengthened x (stretches xs)

-- a byte in two small hex digits
abbrev pub hex_char : ℕ → ℕ
hex_char d = if nat_lt d 10 then 48 + d else 87 + d

abbrev pub hex : ℕ → List ℕ
hex b = hex_char (b / 16) ∷ hex_char (b % 16) ∷ []

-- a run of 4 or more is counted
abbrev pub form_of : ℕ → RunForm
form_of times = if nat_le 4 times then Counted else Plain

-- a plus sign stands on either side of a counted run, and nowhere else
abbrev pub separator : Option RunForm → RunForm → List ℕ
separator None form = []
separator (Some Plain) Plain = []
separator (Some Plain) Counted = 43 ∷ []
separator (Some Counted) form = 43 ∷ []

abbrev pub plain : ℕ → ℕ → List ℕ
plain byte times = flat_map hex (replicate times byte)

abbrev pub run_text : RunForm → ℕ → ℕ → List ℕ
run_text Plain byte times = plain byte times
run_text Counted byte times = hex byte ++ (42 ∷ decimal times)

-- the runs from one on, after the form of the one before it
abbrev pub shown_from : Option RunForm → List Stretch → List ℕ
shown_from before [] = []
shown_from before (g ∷ gs) =
    separator before (form_of g.times)
    ++ (run_text (form_of g.times) g.byte g.times ++ shown_from (Some (form_of g.times)) gs)

-- a dash for no bytes, else the runs
abbrev pub shown : List ℕ → List ℕ
shown [] = 45 ∷ []
shown (x ∷ xs) = shown_from None (stretches (x ∷ xs))
