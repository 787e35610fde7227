-- The message schedule, made word by word, and the rounds with the constants beside its words.
use Rattle.std.proofs.Common.{◌≡◌, ℕ, zero, suc, ◌+◌, ◌-◌, ◌*◌, ◌<◌, ◌≤◌, List, [], ◌∷◌, ◌++◌, length, get_or, take, drop, set, fold, sym, refl, ap, ◌∙◌, arith, length-take-le, length-drop}
use Rattle.std.specs.List.{zip}
use Rattle.std.specs.Simd.{first_chunks}
use Rattle.std.proofs.lemmas.List.Sums.{fold_push, fold-append}
use Rattle.std.proofs.lemmas.Slice.Zip.{length-zip, get_or-zip}
use Rattle.std.proofs.lemmas.List.{get_or-take, take_more_set, take_more, take_all}
use Rattle.digest.specs.Words.{Words, ◌⊞◌, σ0, σ1}
use Rattle.digest.specs.Sha256.{back, next_word, extended, round, rounds}
use Rattle.digest.specs.Constants.{K}

-- the k-th word before the place t
back-take : (w : Words) (t k : ℕ) → t ≤ length w → 0 < k → k ≤ t → back (take t w) k ≡ get_or w (t - k) 0
back-take w t k le p q =
    ap (λ n. get_or (take t w) (n - k) 0) (length-take-le t w le) ∙ get_or-take t w (t - k) 0 (omega arith)

-- one more word of the schedule
pub extended_more : (m w : Words) (t : ℕ) → 16 ≤ t → t < length w → take t w ≡ extended (t - 16) m
    → take (t + 1) (set w t (σ1 (get_or w (t - 2) 0) ⊞ get_or w (t - 7) 0 ⊞ σ0 (get_or w (t - 15) 0) ⊞ get_or w (t - 16) 0)) ≡ extended (t + 1 - 16) m
unfolding extended next_word
extended_more m w t ge lt e =
    let n : t + 1 - 16 ≡ suc (t - 16) = omega arith in
    let b2 = back-take w t 2 (omega arith) (omega arith) (omega arith) in
    let b7 = back-take w t 7 (omega arith) (omega arith) (omega arith) in
    let b15 = back-take w t 15 (omega arith) (omega arith) (omega arith) in
    let b16 = back-take w t 16 (omega arith) (omega arith) (omega arith) in
    let next : σ1 (get_or w (t - 2) 0) ⊞ get_or w (t - 7) 0 ⊞ σ0 (get_or w (t - 15) 0) ⊞ get_or w (t - 16) 0 ≡ next_word (take t w) = cc in
    take_more_set w t _ lt ∙ ap (λ x. take t w ++ x ∷ []) next ∙ ap (λ x. x ++ next_word x ∷ []) e ∙ ap (λ k. extended k m) (sym n)

-- the first t rounds, with each constant beside its word
rounds_zipped : (ks w value : Words) (t : ℕ) → ks ≡ K → length w ≡ 64 → t ≤ 64
    → fold (λ v step. round step.0 step.1 v) value (take t (zip ks w)) ≡ rounds t w value
unfolding rounds
rounds_zipped ks w value zero k e le = refl
rounds_zipped ks w value (suc t) k e le =
    let g : Words → ℕ × ℕ → Words = λ v step. round step.0 step.1 v in
    let lk : length ks ≡ 64 = ap length k in
    let ls : t < length (zip ks w) = simp length-zip (omega arith) in
    let step = get_or-zip ks w t (0, 0) (omega arith) (omega arith) in
    let one : suc t ≡ t + 1 = omega arith in
    ap (λ n. fold g value (take n (zip ks w))) one
    ∙ ap (fold g value) (take_more (zip ks w) t (0, 0) ls)
    ∙ fold_push g value (take t (zip ks w)) (get_or (zip ks w) t (0, 0))
    ∙ ap (g (fold g value (take t (zip ks w)))) step
    ∙ ap (λ c. round (get_or c t 0) (get_or w t 0) (fold g value (take t (zip ks w)))) k
    ∙ ap (round (get_or K t 0) (get_or w t 0)) (rounds_zipped ks w value t k e (omega arith))

pub all_zipped : (w value : Words) → length w ≡ 64 → fold (λ v step. round step.0 step.1 v) value (zip K w) ≡ rounds 64 w value
all_zipped w value e =
    let whole : length (zip K w) ≤ 64 = simp length-zip (omega arith) in
    ap (fold (λ v step. round step.0 step.1 v) value) (sym (take_all 64 (zip K w) whole)) ∙ rounds_zipped K w value 64 refl e (omega arith)

zip-nil : {A B : Type 0} (xs : List A) → zip {X = B} xs [] ≡ []
zip-nil [] = refl
zip-nil (x ∷ xs) = refl

-- two lists side by side, cut at one place
zip_cut : {A B : Type 0} (n : ℕ) (xs : List A) (ys : List B) → zip xs ys ≡ zip (take n xs) (take n ys) ++ zip (drop n xs) (drop n ys)
zip_cut zero xs ys = refl
zip_cut (suc n) [] ys = refl
zip_cut (suc n) (x ∷ xs) [] = sym (zip-nil (drop n xs))
zip_cut (suc n) (x ∷ xs) (y ∷ ys) = ap (λ ps. (x, y) ∷ ps) (zip_cut n xs ys)

-- a fold chunk by chunk over two lists side by side
pub by_chunks : {A B C : Type 0} (f : C → A × B → C) (v : C) (n : ℕ) (xs : List A) (ys : List B) → length xs ≡ 8 * n
    → fold (λ v p. fold f v (zip p.0 p.1)) v (zip (first_chunks 8 n xs) (first_chunks 8 n ys)) ≡ fold f v (zip xs ys)
by_chunks f v zero [] ys e = refl
by_chunks f v zero (x ∷ xs) ys e = absurd (omega arith)
by_chunks f v (suc n) xs ys e =
    let left : length (drop 8 xs) ≡ 8 * n = simp length-drop (omega arith) in
    by_chunks f (fold f v (zip (take 8 xs) (take 8 ys))) n (drop 8 xs) (drop 8 ys) left
    ∙ sym (fold-append f v (zip (take 8 xs) (take 8 ys)) (zip (drop 8 xs) (drop 8 ys)))
    ∙ ap (fold f v) (sym (zip_cut 8 xs ys))
