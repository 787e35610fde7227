-- Whether two tags are the same, byte by byte.
use Rattle.std.specs.Prelude.{ℕ, Bool, true, ◌&&◌, List, fold, ◌==◌}
use Rattle.std.specs.List.{zip}

abbrev pub all_same : List ℕ → List ℕ → Bool
all_same a b = fold (λ same p. same && p.0 == p.1) true (zip a b)
