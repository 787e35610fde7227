-- Spans: the positions old + 1 to new of a lane.
use Rattle.std.specs.Prelude.{ℕ, min, max, Bool, not, ◌&&◌, ◌==◌, nat_le, nat_lt}
use Rattle.notice.specs.declared.spans.Span.{Span}

-- the span is of the lane and has the position
abbrev pub span_contains : Span → ℕ → ℕ → Bool
span_contains s lane p = s.lane == lane && (nat_lt s.old p && nat_le p s.new)

-- lanes are equal and the greater of the lower ends is below the lesser of the upper ends
abbrev pub spans_meet : Span → Span → Bool
spans_meet s t = s.lane == t.lane && nat_lt (max t.old s.old) (min t.new s.new)

-- the span stays unless it is of the lane and its end is below the number
abbrev pub span_is_kept : Span → ℕ → ℕ → Bool
span_is_kept s lane below = not (s.lane == lane && nat_lt s.new below)
