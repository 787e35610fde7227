-- What lies behind parts that were split off.
use Rattle.std.proofs.Common.{◌≡◌, ℕ, ◌+◌, List, [], ◌∷◌, length, drop, set, ap, ◌∙◌, refl, arith}
use Rattle.std.proofs.lemmas.List.{drop-drop}

pub drop_behind : (n k m : ℕ) (xs : List ℕ) → n + k ≡ m → drop k (drop n xs) ≡ drop m xs
drop_behind n k m xs e = drop-drop k n xs ∙ ap (λ i. drop i xs) e

-- the one byte of a part, written
pub one_set : (xs : List ℕ) (x : ℕ) → length xs ≡ 1 → set xs 0 x ≡ x ∷ []
one_set (y ∷ []) x h = refl
one_set _ x h = absurd (omega arith)
