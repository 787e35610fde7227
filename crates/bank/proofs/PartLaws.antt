-- Laws of an area cut into equal parts: what stands in each, and what a write to one leaves.
use Rattle.std.proofs.Common.{◌≡◌, ℕ, zero, suc, ◌+◌, ◌*◌, ◌<◌, ◌≤◌, List, [], ◌∷◌, ◌++◌, map, length, get_or, take, drop, set, sym, ap, ◌∙◌, le_of_suc-le-suc, not-suc-le-zero, add_assoc, add_comm, mul-le-mul_left, mul-zero, zero-add, mul-suc, arith, take-add}
use borrow.Rule.Slice.PartMut.{put_mid}
use Rattle.std.proofs.lemmas.List.{length-take, length-drop, length-append, drop-drop, take_at, drop_at, append_assoc, get_or-map}
use Rattle.std.specs.Simd.{first_chunks}
use Rattle.bank.specs.Parts.{part, with_part}
use Rattle.bank.specs.Soundness.{length-first_chunks}

pub get_or-first_chunks : (n s c : ℕ) (area : List ℕ) → c < n → get_or (first_chunks s n area) c [] ≡ part s c area
get_or-first_chunks zero s c area h = absurd (not-suc-le-zero h)
get_or-first_chunks (suc n) s zero area h = rw mul-zero
get_or-first_chunks (suc n) s (suc c) area h =
    get_or-first_chunks n s c (drop s area) (le_of_suc-le-suc h) ∙ ap (take s) (drop-drop (s * c) s area ∙ ap (λ k. drop k area) (add_comm s (s * c) ∙ sym (mul-suc s c)))

-- the parts below n end at or before s * n
pub part_ends : (n s c : ℕ) → c < n → s * c + s ≤ s * n
part_ends n s c h = omega (arith, mul-suc s c, mul-le-mul_left s h)

pub length_part : (n s c : ℕ) (area : List ℕ) → c < n → s * n ≤ length area → length (part s c area) ≡ s
length_part n s c area h fits = simp (length-take, length-drop) (omega (arith, part_ends n s c h))

pub length_with_part : (n s c : ℕ) (area bytes : List ℕ) → c < n → s * n ≤ length area → length bytes ≡ s → length (with_part s c area bytes) ≡ length area
length_with_part n s c area bytes h fits e = simp (length-append, length-take, length-drop) (omega (arith, part_ends n s c h))

-- cut after its first part, the area with another later part is the first part and the rest with that part
later : (s c : ℕ) (area bytes : List ℕ) → with_part s (suc c) area bytes ≡ take s area ++ with_part s c (drop s area) bytes
later s c area bytes =
    ap (λ k. take k area ++ (bytes ++ drop (k + s) area)) (mul-suc s c ∙ add_comm (s * c) s)
    ∙ simp (take-add, append_assoc, drop-drop, add_assoc)

pub first_chunks-with_part : (n s c : ℕ) (area bytes : List ℕ) → c < n → s * n ≤ length area → length bytes ≡ s → first_chunks s n (with_part s c area bytes) ≡ set (first_chunks s n area) c bytes
first_chunks-with_part zero s c area bytes h fits e = absurd (not-suc-le-zero h)
first_chunks-with_part (suc n) s zero area bytes h fits e =
    let front : take s (bytes ++ drop s area) ≡ bytes = take_at bytes (drop s area) s e in
    let back : drop s (bytes ++ drop s area) ≡ drop s area = drop_at bytes (drop s area) s e in
    rw (mul-zero, zero-add, front, back)
first_chunks-with_part (suc n) s (suc c) area bytes h fits e =
    let room : s * n ≤ length (drop s area) = simp length-drop (omega (arith, mul-suc s n)) in
    let long : length (take s area) ≡ s = simp length-take (omega (arith, mul-suc s n)) in
    let rest = with_part s c (drop s area) bytes in
    let front : take s (take s area ++ rest) ≡ take s area = take_at (take s area) rest s long in
    let back : drop s (take s area ++ rest) ≡ rest = drop_at (take s area) rest s long in
    rw (later, front, back) (ap (λ ps. take s area ∷ ps) (first_chunks-with_part n s c (drop s area) bytes (le_of_suc-le-suc h) room e))

-- a write to the part, as the checker tells it
pub written-part : (s c k : ℕ) (area bytes : List ℕ) → k ≡ s → put_mid (s * c) k area bytes ≡ with_part s c area bytes
written-part s c k area bytes e = rw (e, drop-drop s (s * c) area)

-- a number that is read from each part
pub get_or_map-first_chunks : (f : List ℕ → ℕ) (n s c : ℕ) (area : List ℕ) → c < n → get_or (map f (first_chunks s n area)) c 0 ≡ f (part s c area)
get_or_map-first_chunks f n s c area h =
    let long : c < length (first_chunks s n area) = rw length-first_chunks h in
    get_or-map f (first_chunks s n area) c [] 0 long ∙ ap f (get_or-first_chunks n s c area h)
