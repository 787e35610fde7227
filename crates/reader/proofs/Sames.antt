-- Two byte strings of one length are the same where each pair of bytes is.
use Rattle.std.proofs.Common.{◌≡◌, ℕ, Bool, true, false, ◌&&◌, eqb, List, [], ◌∷◌, length, refl, arith}
use Rattle.std.proofs.lemmas.Bool.Decides.{nat_tests}
use Rattle.std.specs.Prelude.{fold, ◌==◌}
use Rattle.std.specs.List.{zip}
use Rattle.std.specs.Str.{bytes_eq}
use Rattle.reader.specs.Same.{all_same}

same_from :
    (same : Bool) (a b : List ℕ) → length a ≡ length b →
    fold (λ (s : Bool) (p : ℕ × ℕ). s && p.0 == p.1) same (zip a b) ≡ (same && bytes_eq a b)
same_from true [] [] e = refl
same_from false [] [] e = refl
same_from same [] (y ∷ ys) e = absurd (omega arith)
same_from same (x ∷ xs) [] e = absurd (omega arith)
same_from same (x ∷ xs) (y ∷ ys) e = grind (arith, nat_tests, same_from (same && eqb x y) xs ys (omega arith))

pub same_where_all : (a b : List ℕ) → length a ≡ length b → all_same a b ≡ bytes_eq a b
same_where_all a b e = same_from true a b e
