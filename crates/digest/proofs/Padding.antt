-- The last blocks of a message, written part by part.
use Rattle.std.proofs.Common.{◌≡◌, ℕ, suc, ◌+◌, ◌-◌, ◌≤◌, [], ◌∷◌, ◌++◌, length, drop, set, replicate, sym, refl, ap, ◌∙◌, arith, length-append, take_at, drop-drop}
use borrow.Rule.Slice.PartMut.{put_mid}
use lib.ListN.{length-replicate, replicate-append-replicate}
use lib.Seq.{set_at}
use Rattle.std.proofs.lemmas.List.{append_assoc, append-nil, drop-replicate, drop_all}
use Rattle.digest.specs.Bytes.{Bytes}

-- zeros, then the rest at the front, the bit 1 after it, and eight bytes at the end
pub laid : (rest last : Bytes) (z n k : ℕ) → n ≡ length rest + z + 9 → 8 ≤ k
    → put_mid (n - 8) k (set (rest ++ drop (length rest) (replicate n 0)) (length rest) 128) last ≡ rest ++ (128 ∷ replicate z 0 ++ last)
laid rest last z n k e l =
    let zeros : Bytes = replicate z 0 in
    let eight : Bytes = replicate 8 0 in
    let head : Bytes = rest ++ (128 ∷ zeros) in
    let left : n - length rest ≡ suc (z + 8) = omega arith in
    let tail : drop (length rest) (replicate n 0) ≡ 0 ∷ (zeros ++ eight) =
    drop-replicate (length rest) n 0 ∙ ap (λ k. replicate k 0) left ∙ ap (λ xs. 0 ∷ xs) (sym (replicate-append-replicate z 8 0)) in
    let marked : set (rest ++ drop (length rest) (replicate n 0)) (length rest) 128 ≡ head ++ eight =
    ap (λ xs. set (rest ++ xs) (length rest) 128) tail ∙ set_at rest 0 (zeros ++ eight) 128 (length rest) refl
    ∙ sym (append_assoc rest (128 ∷ zeros) eight) in
    let lh : length head ≡ n - 8 = simp (length-append, length-replicate) (omega arith) in
    let le : length (head ++ eight) ≤ n - 8 + k = simp (length-append, length-replicate) (omega arith) in
    let none : drop k (drop (n - 8) (head ++ eight)) ≡ [] = drop-drop k (n - 8) (head ++ eight) ∙ drop_all (n - 8 + k) (head ++ eight) le in
    ap (λ xs. put_mid (n - 8) k xs last) marked
    ∙ ap (λ xs. xs ++ (last ++ drop k (drop (n - 8) (head ++ eight)))) (take_at head eight (n - 8) lh)
    ∙ ap (λ xs. head ++ (last ++ xs)) none
    ∙ ap (λ xs. head ++ xs) (append-nil last)
    ∙ append_assoc rest (128 ∷ zeros) last
