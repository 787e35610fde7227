-- The input of the digest rule: the matter of an advance is the digest of these bytes.
use Rattle.std.specs.Prelude.{◌≡◌, ℕ, Bool, List, ◌∷◌, ◌++◌, length}
use Rattle.statement.specs.Layout.{four}
use Rattle.notice.specs.declared.spans.Span.{Span}
use Rattle.notice.specs.Limits.{previous_size, input_head, has_room_after}

-- queue 1, old 4, new 4, previous digest 32, and the text
unfoldable pub digest_input : ℕ → ℕ → ℕ → List ℕ → List ℕ → List ℕ
digest_input queue old new previous text = queue ∷ (four old ++ (four new ++ (previous ++ text)))

-- the input of a text of that size may be written into an area of that length
abbrev pub has_input_room : ℕ → ℕ → Bool
has_input_room size room = has_room_after input_head size room

-- the parts of two inputs are the same
pub record AreSame (s t : Span) (d e words texts : List ℕ) : Type 0 where
  pub span : s ≡ t
  pub previous : d ≡ e
  pub text : words ≡ texts

-- no other parts have the same input
abbrev pub Determines : Span → List ℕ → List ℕ → Type 0
Determines span previous text =
    (s : Span) (d words : List ℕ) →
    length d ≡ previous_size → digest_input s.lane s.old s.new d words ≡ digest_input span.lane span.old span.new previous text → AreSame s span d previous words text
