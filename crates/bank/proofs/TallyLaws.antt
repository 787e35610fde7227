-- Laws of a region's number, and of a region that is raised.
use Rattle.std.proofs.Common.{◌≡◌, ℕ, suc, ◌+◌, ◌-◌, ◌<◌, ◌≤◌, List, [], ◌∷◌, ◌++◌, length, get_or, take, drop, set, sym, refl, ap, ◌∙◌, subst, ap₂, arith}
use Rattle.std.specs.Prelude.{sum_by}
use lib.Count as count
use Rattle.std.proofs.lemmas.List.Sums.{sum_by-cons}
use Rattle.std.proofs.lemmas.List.{at_drop_all, take_more_set, drop-set-lt, append_assoc, drop_more, append-nil, take_all, take-append-drop}
use Rattle.bank.specs.Tally.{bits, bits_in, zeros, ones, tally, clear, cleared, raised_by, Clears}
use Rattle.bank.proofs.ByteLaws.{zeros_of_byte, bits_of_cleared}
use Rattle.bank.proofs.ClearLaws.{bits_in_region, zeros-append, clear-append, clear_clears}

pub tally_cons : (b : ℕ) (bs : List ℕ) → tally (b ∷ bs) ≡ zeros (bits b) + tally bs
unfolding bits_in
tally_cons b bs = zeros-append (bits b) (bits_in bs)

-- the count of a region is the sum of its bytes' counts
pub sum_by-zeros : (region : List ℕ) → ((k : ℕ) → k < length region → get_or region k 0 < 256) → sum_by (λ b. count.ones (255 - b)) region ≡ tally region
unfolding bits_in zeros
sum_by-zeros [] fits = refl
sum_by-zeros (b ∷ bs) fits =
    let first = zeros_of_byte b (fits 0 (omega arith)) in
    let rest = sum_by-zeros bs (λ k h. fits (suc k) (omega arith)) in
    sum_by-cons (λ x. count.ones (255 - x)) b bs ∙ ap₂ (λ m n. m + n) first rest ∙ sym (tally_cons b bs)

pub raised_none : (region : List ℕ) → raised_by 0 region ≡ region
unfolding raised_by cleared
raised_none [] = refl
raised_none (b ∷ bs) =
    let e : 0 - ones (bits b) ≡ 0 = omega arith in
    ap (λ rest. b ∷ rest) (ap (λ m. raised_by m bs) e ∙ raised_none bs)

pub length-raised_by : (m : ℕ) (region : List ℕ) → length (raised_by m region) ≡ length region
unfolding raised_by
length-raised_by m [] = refl
length-raised_by m (b ∷ bs) = ap suc (length-raised_by (m - ones (bits b)) bs)

-- one byte is written, and the others stand before it as they are and after it as they will be
pub raised_more : (m : ℕ) (region : List ℕ) (i : ℕ) → i < length region
    → take (i + 1) (set region i (cleared m (get_or region i 0))) ++ raised_by (m - ones (bits (get_or region i 0))) (drop (i + 1) (set region i (cleared m (get_or region i 0))))
    ≡ take i region ++ raised_by m (drop i region)
unfolding raised_by
raised_more m region i h =
    let b = get_or region i 0 in
    let past : i < i + 1 = omega arith in
    let front = take_more_set region i (cleared m b) h in
    let back = drop-set-lt (i + 1) region i (cleared m b) past in
    let whole = ap (raised_by m) (drop_more region i 0 h) in
    let joined = append_assoc (take i region) (cleared m b ∷ []) (raised_by (m - ones (bits b)) (drop (i + 1) region)) in
    cc

-- the bits of a raised region are those of the region, the first that were 1 cleared
pub bits_in_raised : (m : ℕ) (region : List ℕ) → bits_in (raised_by m region) ≡ clear m (bits_in region)
unfolding bits_in raised_by clear
bits_in_raised m [] = refl
bits_in_raised m (b ∷ bs) =
    ap (λ xs. xs ++ bits_in (raised_by (m - ones (bits b)) bs)) (bits_of_cleared m b)
    ∙ ap (λ xs. clear m (bits b) ++ xs) (bits_in_raised (m - ones (bits b)) bs)
    ∙ sym (clear-append m (bits b) (bits_in bs))

pub raise_clears : (m : ℕ) (region : List ℕ) → m ≤ ones (bits_in region) → Clears m (bits_in region) (bits_in (raised_by m region))
raise_clears m region h =
    subst (Clears m (bits_in region)) (sym (bits_in_raised m region)) (clear_clears m (bits_in region) (bits_in_region region) h)

pub raised_clears : (m : ℕ) (was now : List ℕ) → now ≡ raised_by m was → m ≤ ones (bits_in was) → Clears m (bits_in was) (bits_in now)
raised_clears m was now e h = subst (λ bytes. Clears m (bits_in was) (bits_in bytes)) (sym e) (raise_clears m was h)

-- with none left to clear, and past the last byte, the region is as it will be
pub raised_stops : (region : List ℕ) (i : ℕ) → take i region ++ raised_by 0 (drop i region) ≡ region
raised_stops region i = ap (λ rest. take i region ++ rest) (raised_none (drop i region)) ∙ take-append-drop i region

pub raised_ends : (m : ℕ) (region : List ℕ) (i : ℕ) → length region ≤ i → take i region ++ raised_by m (drop i region) ≡ region
unfolding raised_by
raised_ends m region i h =
    ap (λ rest. take i region ++ rest) (at_drop_all (raised_by m) region i h) ∙ append-nil (take i region) ∙ take_all i region h
