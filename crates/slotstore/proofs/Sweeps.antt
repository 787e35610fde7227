-- A sweep over slots, step by step, and what it leaves: the records that stay, in another order.
use Rattle.std.proofs.Common.{◌≡◌, ℕ, zero, suc, ◌+◌, ◌-◌, ◌<◌, ◌≤◌, Bool, true, false, cond, not, List, [], ◌∷◌, ◌++◌, length, get_or, take, drop, filter, Some, None, Option, sym, refl, ap, ◌∙◌, subst, ⊎_elim, append_assoc, arith, take-add}
use Rattle.std.specs.List.Sorted.{IsPermutation}
use Rattle.std.proofs.lemmas.List.Elements.{filter-append}
use Rattle.std.specs.List.{position, swap_remove}
use Rattle.std.specs.Option.{option_map}
use Rattle.std.proofs.lemmas.List.Quantifiers.{position-Some}
use Rattle.std.proofs.lemmas.List.{append-nil, drop_all, drop_at, drop_more, get_or-drop, set_split, length-append, length-drop, length-take-le, take_all, take-append-drop, take_at, take_more}
use Rattle.std.proofs.lemmas.List.Sorted.{IsPermutation-append_comm, IsPermutation-cons, IsPermutation-refl, IsPermutation-trans}
use Rattle.std.proofs.lemmas.Bool.{cases_eq, cond-true, cond-false, not-true, not-false}
use Rattle.store.specs.Meaning.{Bytes}
use Rattle.slotstore.specs.Slots.{rolled, swept}
use Rattle.slotstore.proofs.RowLists.{position-None}

-- the record at the place stays
pub swept_keeps :
    (p : Bytes → Bool) (rs : List Bytes) (i : ℕ) → i < length rs → p (get_or rs i []) ≡ true →
    take i rs ++ swept (length rs - i) p (drop i rs) ≡ take (i + 1) rs ++ swept (length rs - (i + 1)) p (drop (i + 1) rs)
swept_keeps p rs i h t =
    let x = get_or rs i [] in
    let m : length rs - i ≡ suc (length rs - (i + 1)) = omega arith in
    let s : swept (length rs - i) p (drop i rs) ≡ x ∷ swept (length rs - (i + 1)) p (drop (i + 1) rs) =
    ap (λ n. swept n p (drop i rs)) m
    ∙ (ap (swept (suc (length rs - (i + 1))) p) (drop_more rs i [] h)
    ∙ cond-true (p x) _ _ t) in
    ap (λ z. take i rs ++ z) s
    ∙ (sym (append_assoc (take i rs) (x ∷ []) (swept (length rs - (i + 1)) p (drop (i + 1) rs)))
    ∙ ap (λ z. z ++ swept (length rs - (i + 1)) p (drop (i + 1) rs)) (sym (take_more rs i [] h)))

-- the slot takes the contents of the last one and is tried again
pub swept_drops :
    (p : Bytes → Bool) (rs ss : List Bytes) (i n : ℕ) → i < length rs → p (get_or rs i []) ≡ false →
    ss ≡ take i rs ++ rolled (drop (i + 1) rs) → length rs ≡ n + 1 →
    take i rs ++ swept (length rs - i) p (drop i rs) ≡ take i ss ++ swept (n - i) p (drop i ss)
swept_drops p rs ss i n h t e l =
    let x = get_or rs i [] in
    let m : length rs - i ≡ suc (n - i) = omega arith in
    let li : length (take i rs) ≡ i = length-take-le i rs (omega arith) in
    let s : swept (length rs - i) p (drop i rs) ≡ swept (n - i) p (rolled (drop (i + 1) rs)) =
    ap (λ k. swept k p (drop i rs)) m
    ∙ (ap (swept (suc (n - i)) p) (drop_more rs i [] h) ∙ cond-false (p x) _ _ t) in
    ap (λ z. take i rs ++ z) s
    ∙ (ap (λ z. z ++ swept (n - i) p (rolled (drop (i + 1) rs))) (sym (ap (take i) e ∙ take_at (take i rs) (rolled (drop (i + 1) rs)) i li))
    ∙ ap (λ z. take i ss ++ swept (n - i) p z) (sym (ap (drop i) e ∙ drop_at (take i rs) (rolled (drop (i + 1) rs)) i li)))

-- as far as the records stay
swept_skips :
    (p : Bytes → Bool) (rs : List Bytes) (i k : ℕ) → i + k ≤ length rs → ((j : ℕ) → j < k → p (get_or rs (i + j) []) ≡ true) →
    take i rs ++ swept (length rs - i) p (drop i rs) ≡ take (i + k) rs ++ swept (length rs - (i + k)) p (drop (i + k) rs)
swept_skips p rs i zero h t =
    let e : i ≡ i + 0 = omega arith in ap (λ n. take n rs ++ swept (length rs - n) p (drop n rs)) e
swept_skips p rs i (suc k) h t =
    let e : (i + k) + 1 ≡ i + suc k = omega arith in
    swept_skips p rs i k (omega arith) (λ j l. t j (omega arith))
    ∙ (swept_keeps p rs (i + k) (omega arith) (t k (omega arith)) ∙ ap (λ n. take n rs ++ swept (length rs - n) p (drop n rs)) e)

-- the first place from another one on whose record does not stay
pub record Next (p : Bytes → Bool) (rs : List Bytes) (from at : ℕ) : Type 0 where
  pub above : from ≤ at
  pub inside : at < length rs
  pub fails : p (get_or rs at []) ≡ false
  pub stay : (j : ℕ) → from + j < at → p (get_or rs (from + j) []) ≡ true

pub next_place :
    (p : Bytes → Bool) (rs : List Bytes) (from at : ℕ) (place : Option ℕ) → place ≡ position (λ r. not (p r)) (drop from rs) →
    Some at ≡ option_map (λ k. from + k) place → Next p rs from at
next_place p rs from at None e f = cc
next_place p rs from at (Some k) e f =
    let n : at ≡ from + k = cc in
    let t = position-Some (λ r. not (p r)) (drop from rs) k [] (sym e) in
    let l = t.0 in
    record {
      above = omega arith;
      inside = omega (arith, l, length-drop from rs);
      fails = ap (λ j. p (get_or rs j [])) n ∙ (sym (ap p (get_or-drop from rs k [])) ∙ not-true (p (get_or (drop from rs) k [])) t.1);
      stay = λ j h. sym (ap p (get_or-drop from rs j [])) ∙ not-false (p (get_or (drop from rs) j [])) (t.2 j (omega arith));
    }

-- the list after the element at a place took the value of the last one, which is left out
pub taken_over :
    (rs : List Bytes) (i last : ℕ) → length rs ≡ last + 1 → i ≤ last →
    take last (take i rs ++ get_or rs last [] ∷ drop (i + 1) rs) ≡ take i rs ++ rolled (drop (i + 1) rs)
taken_over rs i last n le =
    let y = get_or rs last [] in
    let b = drop (i + 1) rs in
    let li : length (take i rs) ≡ i = length-take-le i rs (omega arith) in
    let lb : length b ≡ last - i = length-drop (i + 1) rs ∙ omega arith in
    let k : i + (last - i) ≡ last = omega arith in
    let front : take last (take i rs ++ y ∷ b) ≡ take i rs ++ take (last - i) (y ∷ b) =
    ap (λ m. take m (take i rs ++ y ∷ b)) (sym k)
    ∙ (take-add i (last - i) (take i rs ++ y ∷ b)
    ∙ (ap (λ z. z ++ take (last - i) (drop i (take i rs ++ y ∷ b))) (take_at (take i rs) (y ∷ b) i li)
    ∙ ap (λ z. take i rs ++ take (last - i) z) (drop_at (take i rs) (y ∷ b) i li))) in
    front ∙ ap (λ z. take i rs ++ z) (⊎_elim none some (cases_eq (last - i) 0))
  where
    none : last - i ≡ 0 → take (last - i) (get_or rs last [] ∷ drop (i + 1) rs) ≡ rolled (drop (i + 1) rs)
    none z =
        let e : drop (i + 1) rs ≡ [] = drop_all (i + 1) rs (omega arith) in
        ap (λ m. take m (get_or rs last [] ∷ drop (i + 1) rs)) z ∙ ap rolled (sym e)

    some : (last - i ≡ 0 → ⊥) → take (last - i) (get_or rs last [] ∷ drop (i + 1) rs) ≡ rolled (drop (i + 1) rs)
    some ne =
        let b = drop (i + 1) rs in
        let lb : length b ≡ last - i = length-drop (i + 1) rs ∙ omega arith in
        let m = length b - 1 in
        let p : last - i ≡ suc m = omega arith in
        let g : get_or b m [] ≡ get_or rs last [] = get_or-drop (i + 1) rs m [] ∙ ap (λ j. get_or rs j []) (omega arith) in
        let d : drop m b ≡ get_or rs last [] ∷ [] =
        drop_more b m [] (omega arith) ∙ (ap (λ z. z ∷ drop (m + 1) b) g ∙ ap (λ z. get_or rs last [] ∷ z) (drop_all (m + 1) b (omega arith))) in
        ap (λ j. take j (get_or rs last [] ∷ b)) p ∙ ap (λ z. z ++ take m b) (sym d)

swapped : (rs : List Bytes) (i : ℕ) → i < length rs → swap_remove rs i [] ≡ take i rs ++ rolled (drop (i + 1) rs)
swapped rs i h =
    let last = length rs - 1 in
    let y = get_or rs last [] in
    let j : suc i ≡ i + 1 = omega arith in
    ap (take last) (set_split rs i y h ∙ ap (λ k. take i rs ++ y ∷ drop k rs) j) ∙ taken_over rs i last (omega arith) (omega arith)

-- its slot takes the contents of the last one, and is where the sweep goes on
pub swept_next :
    (p : Bytes → Bool) (rs ss : List Bytes) (from at : ℕ) → Next p rs from at → ss ≡ swap_remove rs at [] →
    length rs ≡ length ss + 1 →
    take at ss ++ swept (length ss - at) p (drop at ss) ≡ take from rs ++ swept (length rs - from) p (drop from rs)
swept_next p rs ss from at m e l =
    let k : from + (at - from) ≡ at = omega (arith, m.above) in
    let inside = m.inside in
    sym (swept_skips p rs from (at - from) (omega arith) (λ j h. m.stay j (omega arith))
    ∙ (ap (λ n. take n rs ++ swept (length rs - n) p (drop n rs)) k ∙ swept_drops p rs ss at (length ss) m.inside m.fails (e ∙ swapped rs at m.inside) l))

-- no record from a place on has to go
swept_rest :
    (p : Bytes → Bool) (rs : List Bytes) (from : ℕ) (place : Option ℕ) → from ≤ length rs →
    place ≡ position (λ r. not (p r)) (drop from rs) → None ≡ option_map (λ k. from + k) place →
    take from rs ++ swept (length rs - from) p (drop from rs) ≡ rs
swept_rest p rs from (Some k) h e f = cc
swept_rest p rs from None h e f =
    let n = length rs - from in
    let k : from + n ≡ length rs = omega arith in
    let z : length rs - length rs ≡ 0 = omega arith in
    let none = position-None (λ r. not (p r)) (drop from rs) [] (sym e) in
    swept_skips p rs from n (omega arith)
    (λ j l. sym (ap p (get_or-drop from rs j [])) ∙ not-false (p (get_or (drop from rs) j [])) (none j (omega (arith, length-drop from rs))))
    ∙ (ap (λ m. take m rs ++ swept (length rs - m) p (drop m rs)) k
    ∙ (ap (λ m. take (length rs) rs ++ swept m p (drop (length rs) rs)) z
    ∙ (append-nil (take (length rs) rs) ∙ take_all (length rs) rs (omega arith))))

-- the last one put first
kept_rolled : (p : Bytes → Bool) (rs : List Bytes) → IsPermutation (filter p rs) (filter p (rolled rs))
kept_rolled p rs =
    let m = length rs - 1 in
    let c = take m rs in
    let d = drop m rs in
    let before : filter p rs ≡ filter p c ++ filter p d = ap (filter p) (sym (take-append-drop m rs)) ∙ filter-append p c d in
    let after : filter p (rolled rs) ≡ filter p d ++ filter p c = filter-append p d c in
    subst (λ z. IsPermutation z (filter p (rolled rs))) (sym before)
    (subst (IsPermutation (filter p c ++ filter p d)) (sym after) (IsPermutation-append_comm (filter p c) (filter p d)))

length-rolled : (rs : List Bytes) → length (rolled rs) ≡ length rs
length-rolled rs =
    let m = length rs - 1 in
    length-append (drop m rs) (take m rs) ∙ omega (arith, length-drop m rs, length-take-le m rs (omega arith))

-- what a sweep leaves is what stays, in another order
pub swept_shuffled : (n : ℕ) (p : Bytes → Bool) (rs : List Bytes) → length rs ≡ n → IsPermutation (filter p rs) (swept n p rs)
swept_shuffled zero p [] h = IsPermutation-refl []
swept_shuffled zero p (r ∷ rs) h = absurd (omega arith)
swept_shuffled (suc n) p [] h = IsPermutation-refl []
swept_shuffled (suc n) p (r ∷ rs) h =
    elim (p r) as (λ b. IsPermutation (cond b (r ∷ filter p rs) (filter p rs)) (cond b (r ∷ swept n p rs) (swept n p (rolled rs)))) [
      | true ↦ IsPermutation-cons r (filter p rs) (swept n p rs) (swept_shuffled n p rs (omega arith))
      | false ↦
          IsPermutation-trans (filter p rs) (filter p (rolled rs)) (swept n p (rolled rs)) (kept_rolled p rs)
          (swept_shuffled n p (rolled rs) (omega (arith, length-rolled rs)))
    ]

-- a sweep that has no record left to move: what there is, and that it is what stays, in another order
pub record Swept (p : Bytes → Bool) (old rs : List Bytes) : Type 0 where
  pub order : rs ≡ swept (length old) p old
  pub stays : IsPermutation (filter p old) rs

pub swept_done :
    (p : Bytes → Bool) (old rs : List Bytes) (from : ℕ) (place : Option ℕ) → from ≤ length rs →
    place ≡ position (λ r. not (p r)) (drop from rs) → None ≡ option_map (λ k. from + k) place →
    take from rs ++ swept (length rs - from) p (drop from rs) ≡ swept (length old) p old → Swept p old rs
swept_done p old rs from place h e f rest =
    let order : rs ≡ swept (length old) p old = sym (swept_rest p rs from place h e f) ∙ rest in
    record { order = order; stays = subst (IsPermutation (filter p old)) (sym order) (swept_shuffled (length old) p old refl) }
