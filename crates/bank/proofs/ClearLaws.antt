-- Laws of bits, and of clearing the first of them that are 1.
use Rattle.std.proofs.Common.{◌≡◌, ℕ, zero, suc, ◌+◌, ◌-◌, ◌<◌, ◌≤◌, eqb, ◌⊎◌, List, [], ◌∷◌, ◌++◌, length, get_or, take, drop, replicate, sym, refl, ap, ◌∙◌, inl, inr, add_assoc, zero-add, arith}
use Rattle.std.specs.Prelude.{if◌then◌else◌}
use native.Mathlib.Nat.{sub-zero}
use Rattle.bank.specs.Tally.{bits, bits_in, zeros, ones, clear, Clears}

-- each is 0 or 1
abbrev pub Bits : List ℕ → Type 0
Bits [] = Unit {0}
Bits (x ∷ xs) = (x < 2) × Bits xs

pub bits-append : (xs ys : List ℕ) → Bits xs → Bits ys → Bits (xs ++ ys)
bits-append [] ys p q = q
bits-append (x ∷ xs) ys p q = (p.0, bits-append xs ys p.1 q)

pub bits_of_byte : (b : ℕ) → Bits (bits b)
bits_of_byte b =
    (omega arith, (omega arith, (omega arith, (omega arith, (omega arith, (omega arith, (omega arith, (omega arith, tt))))))))

pub bits_in_region : (region : List ℕ) → Bits (bits_in region)
unfolding bits_in
bits_in_region [] = tt
bits_in_region (b ∷ bs) = bits-append (bits b) (bits_in bs) (bits_of_byte b) (bits_in_region bs)

pub zeros-append : (xs ys : List ℕ) → zeros (xs ++ ys) ≡ zeros xs + zeros ys
unfolding zeros
zeros-append [] ys = sym (zero-add (zeros ys))
zeros-append (x ∷ xs) ys = ap (λ n. (if eqb x 0 then 1 else 0) + n) (zeros-append xs ys) ∙ sym (add_assoc ((if eqb x 0 then 1 else 0)) (zeros xs) (zeros ys))

-- a bit that is 0 is a zero, one that is 1 a one
zero_or_one : (x : ℕ) → x < 2 → (if eqb x 0 then 1 else 0) + x ≡ 1
zero_or_one zero h = refl
zero_or_one (suc zero) h = refl
zero_or_one (suc (suc x)) h = absurd (omega arith)

pub zeros_and_ones : (xs : List ℕ) → Bits xs → zeros xs + ones xs ≡ length xs
unfolding zeros ones
zeros_and_ones [] p = refl
zeros_and_ones (x ∷ xs) p = omega (arith, zero_or_one x p.0, zeros_and_ones xs p.1)

pub clear_none : (xs : List ℕ) → clear 0 xs ≡ xs
unfolding clear
clear_none [] = refl
clear_none (x ∷ xs) = refl

pub length-clear : (m : ℕ) (xs : List ℕ) → length (clear m xs) ≡ length xs
unfolding clear
length-clear m [] = refl
length-clear zero (x ∷ xs) = refl
length-clear (suc m) (x ∷ xs) = ap suc (length-clear (suc m - x) xs)

pub clear-bits : (m : ℕ) (xs : List ℕ) → Bits xs → Bits (clear m xs)
unfolding clear
clear-bits m [] p = tt
clear-bits zero (x ∷ xs) p = p
clear-bits (suc m) (x ∷ xs) p = (omega arith, clear-bits (suc m - x) xs p.1)

pub clear-append : (m : ℕ) (xs ys : List ℕ) → clear m (xs ++ ys) ≡ clear m xs ++ clear (m - ones xs) ys
unfolding clear ones
clear-append m [] ys = ap (λ k. clear k ys) (sym (sub-zero m))
clear-append zero (x ∷ xs) ys =
    let e : 0 - (x + ones xs) ≡ 0 = omega arith in
    ap (λ zs. x ∷ (xs ++ zs)) (sym (clear_none ys) ∙ ap (λ k. clear k ys) (sym e))
clear-append (suc m) (x ∷ xs) ys =
    let e : suc m - x - ones xs ≡ suc m - (x + ones xs) = omega arith in
    ap (λ zs. 0 ∷ zs) (clear-append (suc m - x) xs ys ∙ ap (λ k. clear (suc m - x) xs ++ clear k ys) e)

-- one bit first, then the others
pub clear-suc : (m : ℕ) (xs : List ℕ) → Bits xs → clear (suc m) xs ≡ clear m (clear 1 xs)
unfolding clear
clear-suc m [] p = refl
clear-suc zero (x ∷ xs) p = refl
clear-suc (suc m) (zero ∷ xs) p =
    let e : suc (suc m) - 0 ≡ suc (suc m) = omega arith in
    let f : suc m - 0 ≡ suc m = omega arith in
    ap (λ zs. 0 ∷ zs) (ap (λ k. clear k xs) e ∙ clear-suc (suc m) xs p.1 ∙ ap (λ k. clear k (clear 1 xs)) (sym f))
clear-suc (suc m) (suc zero ∷ xs) p =
    let e : suc (suc m) - 1 ≡ suc m - 0 = omega arith in
    ap (λ zs. 0 ∷ zs) (ap (λ k. clear k xs) e ∙ ap (clear (suc m - 0)) (sym (clear_none xs)))
clear-suc (suc m) (suc (suc x) ∷ xs) p = absurd (omega arith)

-- with as many as there are, all are cleared
pub clear_all : (m : ℕ) (xs : List ℕ) → ones xs ≤ m → clear m xs ≡ replicate (length xs) 0
unfolding clear ones
clear_all m [] h = refl
clear_all zero (x ∷ xs) h =
    let e : x ≡ 0 = omega arith in
    let rest = clear_all 0 xs (omega arith) in
    ap (λ y. y ∷ xs) e ∙ ap (λ ys. 0 ∷ ys) (sym (clear_none xs) ∙ rest)
clear_all (suc m) (x ∷ xs) h = ap (λ ys. 0 ∷ ys) (clear_all (suc m - x) xs (omega arith))

-- the law: counts, falls, and the place up to which all is 0 and past which nothing changed
pub clear_counts : (m : ℕ) (xs : List ℕ) → Bits xs → m ≤ ones xs → zeros (clear m xs) ≡ zeros xs + m
unfolding clear ones zeros
clear_counts zero [] p h = refl
clear_counts (suc m) [] p h = absurd (omega arith)
clear_counts zero (x ∷ xs) p h = omega arith
clear_counts (suc m) (x ∷ xs) p h = omega (arith, clear_counts (suc m - x) xs p.1 (omega arith), zero_or_one x p.0)

pub clear_falls : (m : ℕ) (xs : List ℕ) → Bits xs → (k : ℕ) → (get_or (clear m xs) k 0 ≡ get_or xs k 0) ⊎ ((get_or xs k 0 ≡ 1) × (get_or (clear m xs) k 0 ≡ 0))
unfolding clear
clear_falls m [] p k = inl refl
clear_falls zero (x ∷ xs) p k = inl refl
clear_falls (suc m) (zero ∷ xs) p zero = inl refl
clear_falls (suc m) (suc zero ∷ xs) p zero = inr (refl, refl)
clear_falls (suc m) (suc (suc x) ∷ xs) p zero = absurd (omega arith)
clear_falls (suc m) (x ∷ xs) p (suc k) = clear_falls (suc m - x) xs p.1 k

pub clear-place : (m : ℕ) (xs : List ℕ) → (n : ℕ) × (take n (clear m xs) ≡ replicate n 0) × (drop n (clear m xs) ≡ drop n xs)
unfolding clear
clear-place m [] = (0, refl, refl)
clear-place zero (x ∷ xs) = (0, refl, refl)
clear-place (suc m) (x ∷ xs) =
    let rest = clear-place (suc m - x) xs in
    (suc rest.0, ap (λ ys. 0 ∷ ys) rest.1, rest.2)

pub clear_clears : (m : ℕ) (xs : List ℕ) → Bits xs → m ≤ ones xs → Clears m xs (clear m xs)
clear_clears m xs p h =
    let at = clear-place m xs in
    record { long = length-clear m xs; counts = clear_counts m xs p h; falls = clear_falls m xs p; place = at.0; front = at.1; back = at.2 }
