-- What stands in an area after part upon part was put into it.
use Rattle.std.proofs.Common.{◌≡◌, ℕ, ◌+◌, ◌≤◌, List, ◌++◌, length, take, ap, ◌∙◌, arith}

-- one part more at the end of a known front
pub grown :
    (at n : ℕ) (s t f x : List ℕ) →
    take at s ≡ f →
    length x ≡ n →
    (at + length x ≤ length s → take (at + length x) t ≡ take at s ++ x) →
    at + n ≤ length s →
    take (at + n) t ≡ f ++ x
grown at n s t f x e h p le = rw (← h) (p (omega arith) ∙ ap (λ z. z ++ x) e)
