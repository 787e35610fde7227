-- Laws of the bits of a byte: what a count of them gives, and what clearing the next of them leaves.
use Rattle.std.proofs.Common.{◌≡◌, ℕ, zero, suc, ◌+◌, ◌-◌, ◌/◌, ◌%◌, ◌^◌, ◌<◌, ◌≤◌, Bool, true, ◌&&◌, eqb, List, [], ◌∷◌, length, sym, refl, ap, ◌∙◌, arith}
use lib.Count.{count_leading_zeros, ones_in}
use lib.Count as count
use Rattle.std.proofs.lemmas.Bool.Decides.{Decides-below_and, Decides-eqb}
use Rattle.bank.specs.Tally.{bits, value_after, zeros, ones, clear, next_cleared, cleared}
use Rattle.bank.proofs.ClearLaws.{Bits, bits_of_byte, length-clear, clear-bits, clear-suc, clear_none, clear_all}

-- a test that passes at every byte, computed one byte after the other
abbrev each_below : (ℕ → Bool) → ℕ → Bool
each_below f zero = true
each_below f (suc n) = f n && each_below f n

same_below : (f g : ℕ → ℕ) (n : ℕ) → each_below (λ b. eqb (f b) (g b)) n ≡ true → (b : ℕ) → b < n → f b ≡ g b
same_below f g n e = (Decides-below_and (λ b. eqb (f b) (g b)) (λ b. f b ≡ g b) (each_below (λ b. eqb (f b) (g b))) (λ b. Decides-eqb (f b) (g b)) refl (λ _. refl) n).0 e

pub zeros_of_byte : (b : ℕ) → b < 256 → count.ones (255 - b) ≡ zeros (bits b)
unfolding count.ones ones_in zeros
zeros_of_byte = same_below (λ b. count.ones (255 - b)) (λ b. zeros (bits b)) 256 refl

pub ones_of_byte : (b : ℕ) → b < 256 → count.ones b ≡ ones (bits b)
unfolding count.ones ones_in ones
ones_of_byte = same_below (λ b. count.ones b) (λ b. ones (bits b)) 256 refl

pub next_by_leading : (b : ℕ) → b < 256 → next_cleared b ≡ b - 128 / 2 ^ count_leading_zeros 8 b
unfolding next_cleared clear count_leading_zeros
next_by_leading = same_below next_cleared (λ b. b - 128 / 2 ^ count_leading_zeros 8 b) 256 refl

-- eight bits are those of the byte that they stand for
pub bits_of_value : (xs : List ℕ) → length xs ≡ 8 → Bits xs → bits (value_after 0 xs) ≡ xs
bits_of_value [] e p = absurd (omega arith)
bits_of_value (a ∷ []) e p = absurd (omega arith)
bits_of_value (a ∷ b ∷ []) e p = absurd (omega arith)
bits_of_value (a ∷ b ∷ c ∷ []) e p = absurd (omega arith)
bits_of_value (a ∷ b ∷ c ∷ d ∷ []) e p = absurd (omega arith)
bits_of_value (a ∷ b ∷ c ∷ d ∷ f ∷ []) e p = absurd (omega arith)
bits_of_value (a ∷ b ∷ c ∷ d ∷ f ∷ g ∷ []) e p = absurd (omega arith)
bits_of_value (a ∷ b ∷ c ∷ d ∷ f ∷ g ∷ h ∷ []) e p = absurd (omega arith)
bits_of_value (a ∷ b ∷ c ∷ d ∷ f ∷ g ∷ h ∷ i ∷ []) e p =
    let v = value_after 0 (a ∷ b ∷ c ∷ d ∷ f ∷ g ∷ h ∷ i ∷ []) in
    let e0 : v / 128 % 2 ≡ a = omega arith in
    let e1 : v / 64 % 2 ≡ b = omega arith in
    let e2 : v / 32 % 2 ≡ c = omega arith in
    let e3 : v / 16 % 2 ≡ d = omega arith in
    let e4 : v / 8 % 2 ≡ f = omega arith in
    let e5 : v / 4 % 2 ≡ g = omega arith in
    let e6 : v / 2 % 2 ≡ h = omega arith in
    let e7 : v % 2 ≡ i = omega arith in
    cc
bits_of_value (a ∷ b ∷ c ∷ d ∷ f ∷ g ∷ h ∷ i ∷ j ∷ xs) e p = absurd (omega arith)

pub bits_of_next : (b : ℕ) → bits (next_cleared b) ≡ clear 1 (bits b)
unfolding next_cleared
bits_of_next b = bits_of_value (clear 1 (bits b)) (length-clear 1 (bits b)) (clear-bits 1 (bits b) (bits_of_byte b))

pub bits_of_cleared : (m b : ℕ) → bits (cleared m b) ≡ clear m (bits b)
unfolding cleared
bits_of_cleared zero b = sym (clear_none (bits b))
bits_of_cleared (suc m) b =
    bits_of_cleared m (next_cleared b) ∙ ap (clear m) (bits_of_next b) ∙ sym (clear-suc m (bits b) (bits_of_byte b))

-- the highest bit that is 1 is not above the byte
pub highest_fits : (b : ℕ) → b < 256 → 128 / 2 ^ count_leading_zeros 8 b ≤ b
unfolding count_leading_zeros
highest_fits b h =
    let none : 128 / 2 ^ count_leading_zeros 8 b - b ≡ 0 = same_below (λ n. 128 / 2 ^ count_leading_zeros 8 n - n) (λ n. 0) 256 refl b h in
    omega arith

pub value_of_bits : (b : ℕ) → b < 256 → value_after 0 (bits b) ≡ b
value_of_bits = same_below (λ b. value_after 0 (bits b)) (λ b. b) 256 refl

pub cleared_fits : (m b : ℕ) → b < 256 → cleared m b < 256
unfolding cleared
cleared_fits zero b h = h
cleared_fits (suc m) b h = cleared_fits m (next_cleared b) (omega (arith, next_by_leading b h))

-- with as many as there are, the byte is 0
pub cleared_whole : (m b : ℕ) → b < 256 → ones (bits b) ≤ m → cleared m b ≡ 0
cleared_whole m b h all =
    sym (value_of_bits (cleared m b) (cleared_fits m b h)) ∙ ap (value_after 0) (bits_of_cleared m b ∙ clear_all m (bits b) all)

pub cleared_step : (m i b : ℕ) → i < m → cleared (m - i) b ≡ cleared (m - (i + 1)) (next_cleared b)
unfolding cleared
cleared_step m i b h =
    let e : m - i ≡ suc (m - (i + 1)) = omega arith in
    ap (λ k. cleared k b) e
