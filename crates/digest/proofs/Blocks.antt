-- The blocks of a message that comes in parts.
use Rattle.std.proofs.Common.{◌≡◌, ℕ, zero, suc, ◌+◌, ◌*◌, ◌/◌, ◌<◌, ◌≤◌, [], ◌∷◌, ◌++◌, map, length, take, drop, fold, sym, refl, ap, ◌∙◌, add-zero, zero-add, arith, length-append, length-drop, take-append-drop, length-take, drop-drop}
use lib.Seq.{drop-append-le, take-append-le, drop-append-add}
use Rattle.std.specs.List.{range_with_len}
use Rattle.std.specs.Simd.{first_chunks}
use Rattle.std.proofs.lemmas.List.FromFn.{fill_by_all, length-map-range_with_len, get_or-map-range_with_len, map-range_with_len_more}
use Rattle.std.proofs.lemmas.List.{append_assoc, append-nil}
use Rattle.std.proofs.lemmas.List.Folds.{fold-map}
use Rattle.std.proofs.lemmas.List.Sums.{fold-append}
use Rattle.digest.specs.Bytes.{Bytes}
use Rattle.digest.specs.Words.{Words}
use Rattle.digest.specs.Sha256.{words, block, parsed, compressed}

-- a list made from a function of the index, in two parts
counted_split : {X : Type 0} (f : ℕ → X) (n m : ℕ)
    → map f (range_with_len 0 (n + m)) ≡ map f (range_with_len 0 n) ++ map (λ j. f (n + j)) (range_with_len 0 m)
counted_split f n zero = ap (λ k. map f (range_with_len 0 k)) (add-zero n) ∙ sym (append-nil (map f (range_with_len 0 n)))
counted_split f n (suc m) =
    let k : n + suc m ≡ n + m + 1 = omega arith in
    let j : suc m ≡ m + 1 = omega arith in
    let front = map f (range_with_len 0 n) in
    ap (λ k. map f (range_with_len 0 k)) k
    ∙ map-range_with_len_more f 0 (n + m) (n + m) (zero-add (n + m))
    ∙ ap (λ xs. xs ++ f (n + m) ∷ []) (counted_split f n m)
    ∙ append_assoc front (map (λ j. f (n + j)) (range_with_len 0 m)) (f (n + m) ∷ [])
    ∙ ap (λ ys. front ++ ys) (sym (ap (λ k. map (λ j. f (n + j)) (range_with_len 0 k)) j ∙ map-range_with_len_more (λ j. f (n + j)) 0 m m (zero-add m)))

-- functions that agree below n make the same list
counted_same : (f g : ℕ → Words) (n : ℕ) → ((k : ℕ) → k < n → f k ≡ g k) → map f (range_with_len 0 n) ≡ map g (range_with_len 0 n)
counted_same f g n same =
    fill_by_all g (map f (range_with_len 0 n)) n [] (length-map-range_with_len f 0 n)
    (λ k h. get_or-map-range_with_len f 0 n k k [] h (zero-add k) ∙ same k h)

block-left : (a b : Bytes) (n i : ℕ) → length a ≡ 64 * n → i < n → block (a ++ b) i ≡ block a i
unfolding block
block-left a b n i e lt =
    let le : 64 * i ≤ length a = omega arith in
    let more : 64 ≤ length (drop (64 * i) a) = simp length-drop (omega arith) in
    ap (take 64) (drop-append-le (64 * i) a b le) ∙ take-append-le 64 (drop (64 * i) a) b more

block_right : (a b : Bytes) (n j : ℕ) → length a ≡ 64 * n → block (a ++ b) (n + j) ≡ block b j
unfolding block
block_right a b n j e =
    let k : 64 * (n + j) ≡ length a + 64 * j = omega arith in
    ap (λ i. take 64 (drop i (a ++ b))) k ∙ ap (take 64) (drop-append-add a b (64 * j))

-- whole blocks first, then the rest
pub parsed-append : (a b : Bytes) (n : ℕ) → length a ≡ 64 * n → parsed (a ++ b) ≡ parsed a ++ parsed b
unfolding parsed
parsed-append a b n e =
    let l = length-append a b in
    let k : length (a ++ b) / 64 ≡ n + length b / 64 = omega arith in
    let h : length a / 64 ≡ n = omega arith in
    let at : ℕ → Words = λ i. words (block (a ++ b) i) in
    ap (λ k. map at (range_with_len 0 k)) k
    ∙ counted_split at n (length b / 64)
    ∙ ap (λ xs. xs ++ map (λ j. at (n + j)) (range_with_len 0 (length b / 64))) (counted_same at (λ i. words (block a i)) n (λ i lt. ap words (block-left a b n i e lt)))
    ∙ ap (λ ys. map (λ i. words (block a i)) (range_with_len 0 n) ++ ys) (counted_same (λ j. at (n + j)) (λ j. words (block b j)) (length b / 64) (λ j lt. ap words (block_right a b n j e)))
    ∙ ap (λ k. map (λ i. words (block a i)) (range_with_len 0 k) ++ parsed b) (sym h)

-- fewer than 64 bytes are no block
parsed_short : (r : Bytes) → length r < 64 → parsed r ≡ []
unfolding parsed
parsed_short r lt =
    let k : length r / 64 ≡ 0 = omega arith in
    ap (λ k. map (λ i. words (block r i)) (range_with_len 0 k)) k

-- the blocks from the a-th on are the chunks of 64 bytes
chunks_from : (n a : ℕ) (bytes : Bytes) → map words (first_chunks 64 n (drop (64 * a) bytes)) ≡ map (λ i. words (block bytes i)) (range_with_len a n)
unfolding block
chunks_from zero a bytes = refl
chunks_from (suc n) a bytes =
    let next : drop 64 (drop (64 * a) bytes) ≡ drop (64 * (a + 1)) bytes = drop-drop 64 (64 * a) bytes ∙ ap (λ k. drop k bytes) (omega arith) in
    ap (λ xs. words (take 64 (drop (64 * a) bytes)) ∷ xs) (ap (λ b. map words (first_chunks 64 n b)) next ∙ chunks_from n (a + 1) bytes)

-- every whole block in turn
pub absorbed : (value : Words) (bytes : Bytes) → fold (λ v b. compressed v (words b)) value (first_chunks 64 (length bytes / 64) bytes) ≡ fold compressed value (parsed bytes)
unfolding parsed
absorbed value bytes =
    sym (fold-map compressed words value (first_chunks 64 (length bytes / 64) bytes))
    ∙ ap (fold compressed value) (chunks_from (length bytes / 64) 0 bytes)

-- a message and its padding: the message's whole blocks, then the blocks of what is left and the padding
pub in_two : (value : Words) (m p : Bytes) (whole : ℕ) → whole ≡ length m / 64 * 64
    → fold compressed value (parsed (m ++ p)) ≡ fold compressed (fold compressed value (parsed m)) (parsed (drop whole m ++ p))
in_two value m p whole e =
    let a : Bytes = take whole m in
    let r : Bytes = drop whole m in
    let cut : a ++ r ≡ m = take-append-drop whole m in
    let la : length a ≡ 64 * (length m / 64) = simp length-take (omega arith) in
    let lr : length r < 64 = simp length-drop (omega arith) in
    let front : parsed m ≡ parsed a =
    ap parsed (sym cut) ∙ parsed-append a r (length m / 64) la ∙ ap (λ xs. parsed a ++ xs) (parsed_short r lr) ∙ append-nil (parsed a) in
    let all : parsed (m ++ p) ≡ parsed m ++ parsed (r ++ p) =
    ap (λ x. parsed (x ++ p)) (sym cut) ∙ ap parsed (append_assoc a r p) ∙ parsed-append a (r ++ p) (length m / 64) la
    ∙ ap (λ xs. xs ++ parsed (r ++ p)) (sym front) in
    ap (fold compressed value) all ∙ fold-append compressed value (parsed m) (parsed (r ++ p))
