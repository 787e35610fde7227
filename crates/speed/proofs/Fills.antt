-- Records cut from bytes and put one after another, and the bytes that covers copy.
use Rattle.std.proofs.Common.{◌≡◌, ℕ, suc, ◌+◌, ◌/◌, ◌<◌, min, Bool, List, [], ◌∷◌, ◌++◌, length, take, drop, sym, refl, ap, ◌∙◌, subst, arith}
use Rattle.std.proofs.Math.Nat.{add-div_left}
use Rattle.std.proofs.lemmas.Nat.{div_below}
use Rattle.std.proofs.lemmas.List.{take_at, drop_at, length-append}
use Rattle.std.specs.Simd.{first_chunks}
use Rattle.store.specs.Meaning.{Bytes, after_put, found}
use Rattle.speed.specs.Stores.{Fills, most, size_of, copied}

chunks_more :
    (size : ℕ) (bytes x rest : List ℕ) → 0 < size → bytes ≡ x ++ rest → length x ≡ size →
    first_chunks size (length bytes / size) bytes ≡ x ∷ first_chunks size (length rest / size) rest
chunks_more size bytes x rest some e l =
    let n : length bytes / size ≡ suc (length rest / size) =
    ap (λ k. k / size) (ap length e ∙ (length-append x rest ∙ ap (λ k. k + length rest) l)) ∙ (add-div_left (length rest) some ∙ (omega arith)) in
    let f : take size bytes ≡ x = ap (take size) e ∙ take_at x rest size l in
    let g : drop size bytes ≡ rest = ap (drop size) e ∙ drop_at x rest size l in
    ap (λ k. first_chunks size k bytes) n
    ∙ (ap (λ z. z ∷ first_chunks size (length rest / size) (drop size bytes)) f
    ∙ ap (λ z. x ∷ first_chunks size (length rest / size) z) g)

chunks_none : (size : ℕ) (bytes : List ℕ) → length bytes < size → first_chunks size (length bytes / size) bytes ≡ []
chunks_none size bytes h =
    let n : length bytes / size ≡ 0 = let b = div_below (length bytes) size 1 (omega arith) (omega arith) in omega arith in
    ap (λ k. first_chunks size k bytes) n

module _ (Made : List Bytes → Type 0) (held : List Bytes) (size : ℕ) (bytes : List ℕ)
    (left : (after : List Bytes) → Fills held (first_chunks size (length bytes / size) bytes) after → Made after)
  where
    -- one record more is put
    pub fills_more :
        (fits : Bool) (next : List Bytes) (x rest : List ℕ) → 0 < size → bytes ≡ x ++ rest → length x ≡ size → next ≡ after_put fits held x →
        (after : List Bytes) → Fills next (first_chunks size (length rest / size) rest) after → Made after
    fills_more fits next x rest some e l put after f =
        let chunks = first_chunks size (length rest / size) rest in
        left after
        (subst (λ cs. Fills held cs after) (sym (chunks_more size bytes x rest some e l))
        (fits, subst (λ h. Fills h chunks after) put f))

    -- no whole record is left
    pub fills_all : length bytes < size → Made held
    fills_all h = left held (subst (λ cs. Fills held cs held) (sym (chunks_none size bytes h)) refl)

-- one position more is covered
pub copied_more : (held : List Bytes) (n : ℕ) → copied held (n + 1) ≡ min (copied held n + size_of (found 0 n held)) most
copied_more held n = let e : n + 1 ≡ suc n = omega arith in ap (copied held) e
