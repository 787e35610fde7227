-- One record of a log and the rest of it.
use Rattle.std.proofs.Common.{◌≡◌, ℕ, zero, suc, ◌+◌, ◌-◌, ◌*◌, ◌<◌, ◌≤◌, leb, List, [], ◌∷◌, ◌++◌, length, slice_index, take, drop, sym, ap, ◌∙◌, subst, append_assoc, w16, arith}
use Rattle.std.specs.Int.{from_be_bytes, to_be_bytes}
use Rattle.std.proofs.lemmas.List.{drop-drop, length-drop, length-take-le}
use Rattle.std.proofs.lemmas.Slice.{take-put_mid, drop-put_mid}
use borrow.Rule.Slice.PartMut.{put_mid}
use Rattle.std.proofs.lemmas.Bool.{and_parts, leb-true}
use Rattle.logstore.specs.Log.{length_size, log_limit, two, framed, size_at, first, rest, parse, Layout}

-- the length that the first two bytes are
pub size_in_front : (xs bytes : List ℕ) → xs ≡ take 2 bytes → 2 ≤ length bytes → from_be_bytes w16 xs ≡ size_at bytes
unfolding size_at
size_in_front xs [] e h = absurd (omega arith)
size_in_front xs (a ∷ []) e h = absurd (omega arith)
size_in_front xs (a ∷ b ∷ bytes) e h = rw e (omega arith)

pub length_first : (bytes : List ℕ) → length_size + size_at bytes ≤ length bytes → length (first bytes) ≡ size_at bytes
unfolding first
length_first bytes h = length-take-le (size_at bytes) (drop 2 bytes) (omega (arith, length-drop 2 bytes))

-- one record less, where one is left
pub parse_more : (n : ℕ) (bytes : List ℕ) → 0 < n → parse n bytes ≡ first bytes ∷ parse (n - 1) (rest bytes)
parse_more zero bytes h = absurd (omega arith)
parse_more (suc n) bytes h = let e : suc n - 1 ≡ n = omega arith in ap (λ k. first bytes ∷ parse k (rest bytes)) (sym e)

pub layout_more :
    (n : ℕ) (bytes : List ℕ) → 0 < n → Layout n bytes → (length_size + size_at bytes ≤ length bytes) × Layout (n - 1) (rest bytes)
layout_more zero bytes h l = absurd (omega arith)
layout_more (suc n) bytes h l =
    let e : suc n - 1 ≡ n = omega arith in
    let p = and_parts (leb (length_size + size_at bytes) (length bytes)) _ l in
    (leb-true (length_size + size_at bytes) (length bytes) p.0, subst (λ k. Layout k (rest bytes)) (sym e) p.1)

-- the first record after its length, where the second byte of that is a byte
framed_at :
    (a z n : ℕ) (bytes : List ℕ) → n ≡ a * 256 + z → z < 256 → n ≤ length bytes →
    framed (take n bytes) ≡ take (length_size + n) (a ∷ z ∷ bytes)
framed_at a z n bytes e b h =
    let l = length-take-le n bytes h in
    let k : 2 + n ≡ suc (suc n) = omega arith in
    rw k (made (omega (arith, l)) (omega (arith, l)))
  where
    made : {a b c d : ℕ} {xs : List ℕ} → a ≡ c → b ≡ d → ◌≡◌ {A = List ℕ} (a ∷ b ∷ xs) (c ∷ d ∷ xs)
    made a b = cc

pub framed_first :
    (bytes : List ℕ) → length_size + size_at bytes ≤ length bytes → slice_index bytes 1 < 256 →
    framed (first bytes) ≡ take (length_size + size_at bytes) bytes
unfolding size_at first
framed_first [] h b = absurd (omega arith)
framed_first (a ∷ []) h b = absurd (omega arith)
framed_first (a ∷ z ∷ bytes) h b = framed_at a z (a * 256 + z) bytes (omega arith) b (omega arith)

-- a length below log_limit in two bytes, as std says it
two_bytes : (n : ℕ) → n < log_limit → to_be_bytes w16 n ≡ two n
two_bytes n h = made (omega arith) (omega arith)
  where
    made : {a b c d : ℕ} → a ≡ c → b ≡ d → ◌≡◌ {A = List ℕ} (a ∷ b ∷ []) (c ∷ d ∷ [])
    made a b = cc

-- a record written behind its length
pub written_behind :
    (xs ys zs r : List ℕ) (at : ℕ) → at + (length_size + length r) ≤ length xs → length r < log_limit → ys ≡ to_be_bytes w16 (length r) → zs ≡ r →
    put_mid (at + length_size) (at + length_size + length r - (at + length_size)) (put_mid at (at + length_size - at) xs ys) zs
    ≡ take at xs ++ (two (length r) ++ (r ++ drop (at + (length_size + length r)) xs))
written_behind xs ys zs r at h short l m =
    let n = length r in
    let t : ys ≡ two n = l ∙ two_bytes n short in
    let u : length ys ≡ 2 = ap length t in
    let e : at + length_size - at ≡ 2 = omega arith in
    let f : at + length_size + n - (at + length_size) ≡ n = omega arith in
    let g : at + length_size + n ≡ at + (length_size + n) = omega arith in
    let a = take-put_mid at 2 xs ys (at + length_size) (omega (arith, u)) (omega arith) in
    let d = drop-put_mid at 2 xs ys (at + length_size + n) (omega arith) (omega arith) u in
    rw (e, f, a) (
    ap (λ ts. (take at xs ++ ys) ++ (zs ++ ts)) (drop-drop n (at + length_size) (put_mid at 2 xs ys) ∙ (d ∙ ap (λ k. drop k xs) g))
    ∙ (append_assoc (take at xs) ys (zs ++ drop (at + (length_size + n)) xs)
    ∙ (ap (λ ts. take at xs ++ (ts ++ (zs ++ drop (at + (length_size + n)) xs))) t
    ∙ ap (λ ts. take at xs ++ (two n ++ (ts ++ drop (at + (length_size + n)) xs))) m))
    )
