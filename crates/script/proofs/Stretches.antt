-- The first run of a byte string.
use Rattle.std.proofs.Common.{◌≡◌, ℕ, zero, suc, ◌+◌, ◌-◌, ◌<◌, ◌≤◌, true, false, List, [], ◌∷◌, ◌++◌, length, get_or, drop, Option, Some, sym, refl, ap, ◌∙◌, subst, ⊎_elim, append_assoc, one-add, add-one, arith, length-append}
use Rattle.std.specs.Prelude.{◌==◌}
use Rattle.std.specs.List.{AllAdjacentBelow, IsChunkByPrefix}
use Rattle.std.proofs.lemmas.Bool.{eq-eqb, eqb-true, eqb-false, ne_eqb, cases_eq, cond-true, cond-false}
use Rattle.std.proofs.lemmas.List.Sums.{prefix_len_is}
use Rattle.std.proofs.Math.Seq.{drop-append_seam}
use Rattle.script.specs.Words.{run_len}
use Rattle.script.specs.declared.show.RunForm.{RunForm}
use Rattle.script.specs.Shown.{Stretch, stretch, stretches, lengthened, shown_from, separator, run_text, form_of}

-- one byte more in front of runs that begin with the same byte, or with another
again : (x n : ℕ) (gs : List Stretch) →
    lengthened x (stretch x n ∷ gs) ≡ stretch x (1 + n) ∷ gs
again x n gs = cond-true _ _ _ (eq-eqb x x refl)

anew : (x y n : ℕ) (gs : List Stretch) → (x ≡ y → ⊥) →
    lengthened x (stretch y n ∷ gs)
    ≡ stretch x 1 ∷ stretch y n ∷ gs
anew x y n gs ne = cond-false _ _ _ (ne_eqb x y ne)

-- a run goes on over a byte that is the same, and ends before another
leads_on : (x : ℕ) (ys : List ℕ) → run_len x (x ∷ ys) ≡ suc (run_len x ys)
leads_on x ys =
    cond-true _ _ _ (eq-eqb x x refl) ∙ one-add (run_len x ys)

ends_at : (x y : ℕ) (ys : List ℕ) → (y ≡ x → ⊥) → run_len x (y ∷ ys) ≡ 0
ends_at x y ys ne = cond-false _ _ _ (ne_eqb y x ne)

-- the first run has the first byte and those equal to it that follow at once; the other runs are those of what is left
abbrev First : ℕ → List ℕ → Type 0
First x xs =
    stretches (x ∷ xs)
    ≡ stretch x (1 + run_len x xs) ∷ stretches (drop (run_len x xs) xs)

first_same : (x : ℕ) (ys : List ℕ) → First x ys → First x (x ∷ ys)
first_same x ys ih =
    let n = run_len x ys in
    let goal =
    ap (λ k. stretch x (1 + k) ∷ (stretches (drop k (x ∷ ys)))) (leads_on x ys) in
    let more =
    ap (λ k. stretch x (1 + k) ∷ (stretches (drop n ys))) (one-add n) in
    ap (lengthened x) ih ∙ again x (1 + n) (stretches (drop n ys)) ∙ more ∙ sym goal

first_other : (x y : ℕ) (ys : List ℕ) → (x ≡ y → ⊥) → First y ys → First x (y ∷ ys)
first_other x y ys ne ih =
    let n = run_len y ys in
    let goal =
    ap
    (λ k. stretch x (1 + k) ∷ (stretches (drop k (y ∷ ys))))
    (ends_at x y ys (λ e. ne (sym e))) in
    let rest = ap (λ gs. stretch x 1 ∷ gs) ih in
    ap (lengthened x) ih ∙ anew x y (1 + n) (stretches (drop n ys)) ne ∙ sym (goal ∙ rest)

pub first-stretch : (x : ℕ) (xs : List ℕ) → First x xs
first-stretch x [] = refl
first-stretch x (y ∷ ys) =
    ⊎_elim
    (λ e. let P : ℕ → Type 0 = λ z. First x (z ∷ ys) in subst P e (first_same x ys (first-stretch x ys)))
    (λ ne. first_other x y ys ne (first-stretch y ys))
    (cases_eq x y)

-- where each byte equals the next one, all of them equal the first
all_first : (bytes : List ℕ) (n : ℕ) → AllAdjacentBelow (λ b c. b == c ≡ true) bytes n → (k : ℕ) → k < n → get_or bytes k 0 ≡ get_or bytes 0 0
all_first bytes n same zero h = refl
all_first bytes n same (suc k) h =
    let next = eqb-true (get_or bytes k 0) (get_or bytes (k + 1) 0) (same k 0 (omega arith)) in
    ap (λ i. get_or bytes i 0) (sym (add-one k)) ∙ sym next ∙ all_first bytes n same k (omega arith)

-- the longest front in which each byte equals the next one is a run
front_run : (x : ℕ) (xs : List ℕ) (n : ℕ) → n ≤ length xs → AllAdjacentBelow (λ b c. b == c ≡ true) (x ∷ xs) (suc n)
    → (n < length xs → get_or (x ∷ xs) n 0 == get_or xs n 0 ≡ false) → n ≡ run_len x xs
front_run x xs n m same stops =
    let first : (k : ℕ) → k < suc n → get_or (x ∷ xs) k 0 ≡ x = all_first (x ∷ xs) (suc n) same in
    sym
    (prefix_len_is (λ c. c == x) xs n 0 m (λ k h. eq-eqb (get_or xs k 0) x (first (suc k) (omega arith))) (λ h.
    ne_eqb (get_or xs n 0) x (λ e. eqb-false (get_or (x ∷ xs) n 0) (get_or xs n 0) (stops h) (first n (omega arith) ∙ sym e))))

-- what is printed of bytes that begin with such a front
pub shown_part : (before : Option RunForm) (bytes part rest : List ℕ) → bytes ≡ part ++ rest → 0 < length part → IsChunkByPrefix (λ b c. b == c) bytes (length part)
    → shown_from before (stretches bytes)
    ≡ separator before (form_of (length part))
    ++ (run_text (form_of (length part)) (get_or part 0 0) (length part) ++ shown_from (Some (form_of (length part))) (stretches rest))
shown_part before bytes [] rest e h front = absurd (omega arith)
shown_part before bytes (x ∷ part) rest e h front =
    let n = length part in
    let xs = part ++ rest in
    let whole : IsChunkByPrefix (λ b c. b == c) (x ∷ xs) (suc n) =
    subst (λ all. IsChunkByPrefix (λ b c. b == c) all (suc n)) e front in
    let fits : n ≤ length xs = omega (arith, length-append part rest) in
    let stops : n < length xs → get_or (x ∷ xs) n 0 == get_or xs n 0 ≡ false =
    λ l. let k : suc n - 1 ≡ n = omega arith in rw k at whole.1 (omega arith) 0 in
    let run = front_run x xs n fits whole.0 stops in
    let after : drop n xs ≡ rest = drop-append_seam part rest in
    ap (shown_from before) (ap stretches e ∙ first-stretch x xs)
    ∙ ap (λ k. separator before (form_of (1 + k)) ++ (run_text (form_of (1 + k)) x (1 + k) ++ shown_from (Some (form_of (1 + k))) (stretches (drop k xs)))) (sym run)
    ∙ ap (λ k. separator before (form_of k) ++ (run_text (form_of k) x k ++ shown_from (Some (form_of k)) (stretches (drop n xs)))) (one-add n)
    ∙ ap (λ left. separator before (form_of (suc n)) ++ (run_text (form_of (suc n)) x (suc n) ++ shown_from (Some (form_of (suc n))) (stretches left))) after

-- two texts laid one after the other, before what is still to come
pub laid : (o one two s t u w : List ℕ) → one ≡ o ++ s → two ≡ one ++ t → w ≡ s ++ (t ++ u) → two ++ u ≡ o ++ w
laid o one two s t u w e f g = rw (f, e, g) (simp append_assoc)
