-- The invariant of a pass that moves the records that stay together, its start, its steps and its end.
use Rattle.std.proofs.Common.{◌≡◌, ℕ, ◌+◌, ◌-◌, ◌<◌, ◌≤◌, Bool, true, false, List, ◌∷◌, ◌++◌, length, take, drop, replicate, filter, sym, ap, ◌∙◌, subst, append_assoc, arith}
use Rattle.std.proofs.lemmas.Bool.{cond-true, cond-false}
use Rattle.std.proofs.lemmas.List.{drop-drop, append-nil, length-append, length-drop, length-take-le, take-append-drop}
use borrow.Rule.Slice.PartMut.{put_mid}
use Rattle.std.proofs.lemmas.List.Edits.{take-paste, drop-paste, length-paste}
use lib.Seq.{paste}
use Rattle.store.specs.Meaning.{Bytes}
use Rattle.logstore.specs.Log.{length_size, two, framed, laid, size_at, first, rest, parse, Layout}
use Rattle.logstore.proofs.Logs.{parse_more, layout_more}

-- `start` held `count` records. From `at` on the area is as it was, with `left` records; its first `used` bytes
-- and what stays of those are the log of all that stays.
pub record Compacting (p : Bytes → Bool) (start : List ℕ) (count : ℕ) (area : List ℕ) (at used kept left : ℕ) : Type 0 where
  pub lies : Layout left (drop at start)
  pub same : drop at area ≡ drop at start
  pub front : take used area ++ laid (filter p (parse left (drop at start))) ≡ laid (filter p (parse count start))
  pub number : kept + length (filter p (parse left (drop at start))) ≡ length (filter p (parse count start))
  pub reach : at + length (laid (parse left (drop at start))) ≡ length (laid (parse count start))
  pub behind : used ≤ at
  pub within : at ≤ length area
  pub long : length area ≡ length start
  pub few : kept + left ≤ count

-- the first of the records that are left lies within the area
pub next_inside :
    (p : Bytes → Bool) (start : List ℕ) (count : ℕ) (area : List ℕ) (at used kept left : ℕ) →
    Compacting p start count area at used kept left → 0 < left → length_size + size_at (drop at area) ≤ length (drop at area)
next_inside p start count area at used kept left inv some =
    subst (λ bytes. length_size + size_at bytes ≤ length bytes) (sym inv.same) (layout_more left (drop at start) some inv.lies).0

-- the rest of what begins at a place begins at the next
pub rest-drop : (at n : ℕ) (area : List ℕ) → n ≡ size_at (drop at area) → rest (drop at area) ≡ drop (at + (length_size + n)) area
unfolding rest
rest-drop at n area e = drop-drop (length_size + size_at (drop at area)) at area ∙ ap (λ k. drop (at + (length_size + k)) area) (sym e)

module _ (p : Bytes → Bool) (start : List ℕ) (count : ℕ) (area : List ℕ) (at used kept left : ℕ)
    (inv : Compacting p start count area at used kept left) (some : 0 < left) (r : Bytes)
    (is : r ≡ first (drop at area)) (size : length r ≡ size_at (drop at area))
  where
    here : first (drop at start) ≡ r
    here = sym (is ∙ ap first inv.same)

    ends : at + (length_size + length r) ≤ length area
    ends = omega (arith, size, next_inside p start count area at used kept left inv some, length-drop at area, inv.within)

    -- what is left after the record
    abbrev later : List Bytes
    later = parse (left - 1) (drop (at + (length_size + length r)) start)

    next : rest (drop at start) ≡ drop (at + (length_size + length r)) start
    next = rest-drop at (length r) start (size ∙ ap size_at inv.same)

    parsed : parse left (drop at start) ≡ r ∷ later
    parsed = parse_more left (drop at start) some ∙ (ap (λ x. x ∷ parse (left - 1) (rest (drop at start))) here ∙ ap (λ z. r ∷ parse (left - 1) z) next)

    on : drop (at + (length_size + length r)) area ≡ drop (at + (length_size + length r)) start
    on = sym (drop-drop (length_size + length r) at area) ∙ (ap (drop (length_size + length r)) inv.same ∙ drop-drop (length_size + length r) at start)

    lies' : Layout (left - 1) (drop (at + (length_size + length r)) start)
    lies' = subst (Layout (left - 1)) next (layout_more left (drop at start) some inv.lies).1

    reach' : at + (length_size + length r) + length (laid later) ≡ length (laid (parse count start))
    reach' = omega (arith, ap (λ z. length (laid z)) parsed, length-append r (laid later), inv.reach)

    -- the record does not stay
    pub compacting-skips : p r ≡ false → Compacting p start count area (at + (length_size + length r)) used kept (left - 1)
    compacting-skips t =
        let k : filter p (parse left (drop at start)) ≡ filter p later = ap (filter p) parsed ∙ cond-false (p r) _ _ t in
        record {
          lies = lies';
          same = on;
          front = ap (λ z. take used area ++ laid z) (sym k) ∙ inv.front;
          number = ap (λ z. kept + length z) (sym k) ∙ inv.number;
          reach = reach';
          behind = omega (arith, inv.behind);
          within = ends;
          long = inv.long;
          few = omega (arith, inv.few);
        }

    -- the record stays, and its bytes were moved down
    pub compacting-keeps :
        (area' : List ℕ) (n : ℕ) → p r ≡ true → framed r ≡ take (length_size + length r) (drop at area) → n ≡ 2 + length r →
        area' ≡ paste area used (drop at area) n →
        Compacting p start count area' (at + (length_size + length r)) (used + (length_size + length r)) (kept + 1) (left - 1)
    compacting-keeps area' n t bytes e moved =
        let long : n ≤ length (drop at area) = omega (arith, ends, length-drop at area) in
        let taken : take (used + (length_size + length r)) area' ≡ take used area ++ framed r =
        ap (λ m. take (used + m) area') (sym e)
        ∙ (ap (take (used + n)) moved
        ∙ (take-paste area used (drop at area) n (omega (arith, inv.behind, inv.within)) long
        ∙ ap (λ z. take used area ++ z) (ap (λ m. take m (drop at area)) e ∙ sym bytes))) in
        let back : drop (used + n) area' ≡ drop (used + n) area =
        ap (drop (used + n)) moved ∙ drop-paste area used (drop at area) n (omega (arith, inv.behind, inv.within)) long in
        let gap : (used + n) + (at - used) ≡ at + (length_size + length r) = omega (arith, inv.behind) in
        let after : drop (at + (length_size + length r)) area' ≡ drop (at + (length_size + length r)) area =
        ap (λ m. drop m area') (sym gap)
        ∙ (sym (drop-drop (at - used) (used + n) area')
        ∙ (ap (drop (at - used)) back ∙ (drop-drop (at - used) (used + n) area ∙ ap (λ m. drop m area) gap))) in
        let same_length : length area' ≡ length area =
        ap length moved ∙ length-paste area used (drop at area) n (omega (arith, inv.behind, ends)) long in
        let k : filter p (parse left (drop at start)) ≡ r ∷ filter p later = ap (filter p) parsed ∙ cond-true (p r) _ _ t in
        let f : take (used + (length_size + length r)) area' ++ laid (filter p later) ≡ take used area ++ laid (r ∷ filter p later) =
        ap (λ z. z ++ laid (filter p later)) taken
        ∙ (append_assoc (take used area) (framed r) (laid (filter p later))
        ∙ ap (λ z. take used area ++ z) (append_assoc (two (length r)) r (laid (filter p later)))) in
        record {
          lies = lies';
          same = after ∙ on;
          front = f ∙ (ap (λ z. take used area ++ laid z) (sym k) ∙ inv.front);
          number = omega (arith, ap length k, inv.number);
          reach = reach';
          behind = omega (arith, inv.behind);
          within = omega (arith, ends);
          long = same_length ∙ inv.long;
          few = omega (arith, inv.few);
        }

-- none is left, and what the records that stay leave is cleared
pub compacting_all :
    (p : Bytes → Bool) (start : List ℕ) (count : ℕ) (area zs : List ℕ) (at used kept end : ℕ) →
    Compacting p start count area at used kept 0 → end ≡ length (laid (parse count start)) → zs ≡ replicate (end - used) 0 →
    (put_mid used (end - used) area zs ≡ laid (filter p (parse count start)) ++ (replicate (end - used) 0 ++ drop end start))
    × (used ≡ length (laid (filter p (parse count start))))
    × (kept ≡ length (filter p (parse count start)))
    × (used ≤ end)
compacting_all p start count area zs at used kept end inv reach cleared =
    let e : at ≡ end = omega (arith, inv.reach) in
    let front : take used area ≡ laid (filter p (parse count start)) = sym (append-nil (take used area)) ∙ inv.front in
    let gap : used + (end - used) ≡ end = omega (arith, inv.behind) in
    let same : drop end area ≡ drop end start = subst (λ k. drop k area ≡ drop k start) e inv.same in
    let back : drop (end - used) (drop used area) ≡ drop end start =
    drop-drop (end - used) used area ∙ (ap (λ k. drop k area) gap ∙ same) in (
      ap (λ z. z ++ (zs ++ drop (end - used) (drop used area))) front
          ∙ (ap (λ z. laid (filter p (parse count start)) ++ (z ++ drop (end - used) (drop used area))) cleared
          ∙ ap (λ z. laid (filter p (parse count start)) ++ (replicate (end - used) 0 ++ z)) back),
      sym (length-take-le used area (omega (arith, inv.behind, inv.within))) ∙ ap length front,
      omega (arith, inv.number),
      omega (arith, inv.behind),
    )

-- bytes pasted where they lie
pub paste_in_place : (d : List ℕ) (at from n : ℕ) → at ≡ from → paste d at (drop from d) n ≡ d
paste_in_place d at from n e =
    ap (λ k. paste d at (drop k d) n) (sym e)
    ∙ (append_assoc (take at d) (take n (drop at d)) (drop (at + n) d)
    ∙ (ap (λ z. take at d ++ (take n (drop at d) ++ z)) (sym (drop-drop n at d))
    ∙ (ap (λ z. take at d ++ z) (take-append-drop n (drop at d)) ∙ take-append-drop at d)))
