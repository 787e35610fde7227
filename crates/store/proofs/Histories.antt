-- What holds of every store over any calls.
use Rattle.std.proofs.Common.{◌≡◌, ℕ, zero, suc, ◌+◌, ◌<◌, ◌≤◌, Bool, true, false, cond, ◌⊎◌, List, [], ◌∷◌, ◌++◌, length, get_or, Some, None, count_by, filter, Option, sym, refl, ap, ◌∙◌, subst, inl, inr, ⊎_elim, add-one, arith}
use Rattle.std.specs.List.{ContainsAt as Has}
use Rattle.std.proofs.ByRecursion.{all-has, has_push, has_append_left, has_push_cases, kept_by_passes, has_shuffled}
use Rattle.std.proofs.lemmas.List.Sorted.{IsPermutation-sym}
use Rattle.std.proofs.lemmas.List.Sums.{get_or-le-sum_by, sum_by-cons}
use Rattle.std.proofs.lemmas.Bool.{and_parts, and_from, both_ways, cases_Bool, cond-true, cond-false}
use Rattle.notice.specs.Record.{covers}
use Rattle.store.specs.Meaning.{Bytes, Apart, found, stays}
use Rattle.store.specs.Laws.{Change, added, forgot, Leads, outlives, FoundUntilForgotten, NothingElseFound, SetDecides}
use Rattle.store.proofs.Puts.{put-passed}
use Rattle.store.proofs.Sets.{apart_push, apart_kept, apart_shuffled}

-- a record that is held and covers a position is the one found there
has_here : (r : Bytes) (rs : List Bytes) → Has (r ∷ rs) r
has_here r rs = (0, omega arith, λ d. refl)

has_later : (s r : Bytes) (rs : List Bytes) → Has rs r → Has (s ∷ rs) r
has_later s r rs h = (h.0 + 1, omega (arith, h.1), λ d. ap (λ k. get_or (s ∷ rs) k d) (add-one h.0) ∙ h.2 d)

has_cons_cases : (s r : Bytes) (rs : List Bytes) → Has (s ∷ rs) r → (s ≡ r) ⊎ Has rs r
has_cons_cases s r rs (k, h, e) = go k h e
  where
    go : (k : ℕ) → k < length (s ∷ rs) → ((d : Bytes) → get_or (s ∷ rs) k d ≡ r) → (s ≡ r) ⊎ Has rs r
    go zero h e = inl (e [])
    go (suc k) h e = inr (k, omega arith, e)

covered_once : (q p : ℕ) (rs : List Bytes) (r : Bytes) → Has rs r → covers q p r ≡ true → 1 ≤ count_by (covers q p) rs
covered_once q p rs r h t =
    let f : Bytes → ℕ = λ x. cond (covers q p x) 1 0 in
    omega (arith, get_or-le-sum_by f rs h.0 r h.1, ap f (h.2 r), cond-true {A = ℕ} (covers q p r) 1 0 t)

pub held_found :
    (q p : ℕ) (rs : List Bytes) (r : Bytes) → count_by (covers q p) rs ≤ 1 → Has rs r → covers q p r ≡ true → found q p rs ≡ Some r
held_found q p [] r a h t = absurd (omega (arith, h.1))
held_found q p (s ∷ rs) r a h t =
    let e = sum_by-cons (λ x. cond (covers q p x) 1 0) s rs in
    ⊎_elim
    (λ y. cond-true (covers q p s) (Some s) (found q p rs) y
    ∙ ⊎_elim (λ same. ap Some same)
    (λ more. absurd (omega (arith, a, e, covered_once q p rs r more t, cond-true {A = ℕ} (covers q p s) 1 0 y)))
    (has_cons_cases s r rs h))
    (λ n. cond-false (covers q p s) (Some s) (found q p rs) n
    ∙ ⊎_elim (λ same. absurd (both_ways (covers q p s) n (ap (covers q p) same ∙ t)))
    (λ more. held_found q p rs r (omega (arith, a, e, cond-false {A = ℕ} (covers q p s) 1 0 n)) more t)
    (has_cons_cases s r rs h))
    (cases_Bool (covers q p s))

-- what is found is held and covers the position
pub found_held : (q p : ℕ) (rs : List Bytes) (r : Bytes) → found q p rs ≡ Some r → Has rs r × (covers q p r ≡ true)
found_held q p [] r e = let z : ◌≡◌ {A = ℕ} 0 1 = cc in absurd (omega arith)
found_held q p (s ∷ rs) r e =
    ⊎_elim
    (λ y. let f : Some s ≡ Some r = sym (cond-true (covers q p s) (Some s) (found q p rs) y) ∙ e in
    let g : s ≡ r = cc in
    (subst (Has (s ∷ rs)) g (has_here s rs), ap (covers q p) (sym g) ∙ y))
    (λ n. let m = found_held q p rs r (sym (cond-false (covers q p s) (Some s) (found q p rs) n) ∙ e) in
    (has_later s r rs m.0, m.1))
    (cases_Bool (covers q p s))

-- a filter and what it keeps

has_kept : (p : Bytes → Bool) (rs : List Bytes) (r : Bytes) → Has rs r → p r ≡ true → Has (filter p rs) r
has_kept p [] r h t = absurd (omega (arith, h.1))
has_kept p (s ∷ rs) r h t =
    ⊎_elim
    (λ same. subst (λ z. Has z r) (sym (cond-true (p s) (s ∷ filter p rs) (filter p rs) (ap p same ∙ t)))
    (subst (Has (s ∷ filter p rs)) same (has_here s (filter p rs))))
    (λ more.
    let k = has_kept p rs r more t in
    elim (p s) as (λ b. Has (cond b (s ∷ filter p rs) (filter p rs)) r) [ true ↦ has_later s r (filter p rs) k | false ↦ k ])
    (has_cons_cases s r rs h)

kept_has : (p : Bytes → Bool) (rs : List Bytes) (r : Bytes) → Has (filter p rs) r → Has rs r
kept_has p [] r h = h
kept_has p (s ∷ rs) r h =
    ⊎_elim
    (λ y. ⊎_elim
    (λ same. subst (Has (s ∷ rs)) same (has_here s rs))
    (λ more. has_later s r rs (kept_has p rs r more))
    (has_cons_cases s r (filter p rs) (subst (λ z. Has z r) (cond-true (p s) (s ∷ filter p rs) (filter p rs) y) h)))
    (λ n. has_later s r rs (kept_has p rs r (subst (λ z. Has z r) (cond-false (p s) (s ∷ filter p rs) (filter p rs) n) h)))
    (cases_Bool (p s))

-- runs of changes

leads_apart : (cs : List Change) (held after : List Bytes) → Apart held → Leads held cs after → Apart after
leads_apart [] held after a l = subst Apart l a
leads_apart (added r ∷ cs) held after a (fits, ok, l) =
    leads_apart cs (held ++ r ∷ []) after (apart_push held r a (put-passed fits held r ok).1) l
leads_apart (forgot q n ∷ cs) held after a (next, s, l) =
    leads_apart cs next after (apart_shuffled (filter (stays q n) held) next s (apart_kept (stays q n) held a)) l

leads_keeps : (cs : List Change) (held after : List Bytes) (r : Bytes) → Leads held cs after → outlives cs r ≡ true → Has held r → Has after r
leads_keeps [] held after r l o h = subst (λ z. Has z r) l h
leads_keeps (added s ∷ cs) held after r (fits, ok, l) o h = leads_keeps cs (held ++ s ∷ []) after r l o (has_append_left held (s ∷ []) r h)
leads_keeps (forgot q n ∷ cs) held after r (next, s, l) o h =
    let a = and_parts (stays q n r) (outlives cs r) o in
    leads_keeps cs next after r l a.1 (has_shuffled (filter (stays q n) held) next r s (has_kept (stays q n) held r h a.0))

leads_back :
    (cs : List Change) (held after : List Bytes) (r : Bytes) → Leads held cs after → Has after r →
    (Has held r × (outlives cs r ≡ true))
    ⊎ ((before : List Change) × (later : List Change) × (cs ≡ before ++ added r ∷ later) × (outlives later r ≡ true))
leads_back [] held after r l h = inl (subst (λ z. Has z r) (sym l) h, refl)
leads_back (added s ∷ cs) held after r (fits, ok, l) h =
    ⊎_elim
    (λ x. ⊎_elim
    (λ old. inl (old, x.1))
    (λ same. inr ([], cs, ap (λ z. added z ∷ cs) same, x.1))
    (has_push_cases held s r x.0))
    (λ x. inr (added s ∷ x.0, x.1, ap (λ z. added s ∷ z) x.2, x.3))
    (leads_back cs (held ++ s ∷ []) after r l h)
leads_back (forgot q n ∷ cs) held after r (next, s, l) h =
    ⊎_elim
    (λ x.
    let k = has_shuffled next (filter (stays q n) held) r (IsPermutation-sym (filter (stays q n) held) next s) x.0 in
    inl (kept_has (stays q n) held r k, and_from _ _ (all-has (λ y. stays q n y ≡ true) (filter (stays q n) held) r (kept_by_passes (stays q n) held) k) x.1))
    (λ x. inr (forgot q n ∷ x.0, x.1, ap (λ z. forgot q n ∷ z) x.2, x.3))
    (leads_back cs next after r l h)

leads_put :
    (before later : List Change) (r : Bytes) (held after : List Bytes) → Leads held (before ++ added r ∷ later) after →
    (mid : List Bytes) × Leads (mid ++ r ∷ []) later after
leads_put [] later r held after (fits, ok, l) = (held, l)
leads_put (added s ∷ before) later r held after (fits, ok, l) = leads_put before later r (held ++ s ∷ []) after l
leads_put (forgot q n ∷ before) later r held after (next, s, l) = leads_put before later r next after l

none_apart : Apart []
none_apart q p = omega arith

pub found_until_forgotten : FoundUntilForgotten
found_until_forgotten before later r held q p l o t =
    let m = leads_put before later r [] held l in
    held_found q p held r (leads_apart (before ++ added r ∷ later) [] held none_apart l q p)
    (leads_keeps later (m.0 ++ r ∷ []) held r m.1 o (has_push m.0 r)) t

pub nothing_else_found : NothingElseFound
nothing_else_found changes held q p r l e =
    let f = found_held q p held r e in
    ⊎_elim
    (λ x. absurd (omega (arith, x.0.1)))
    (λ x. (record { before = x.0; later = x.1; put = x.2; kept = x.3 }, f.1))
    (leads_back changes [] held r l f.0)

pub set_decides : SetDecides
set_decides rs ss q p a s = go (found q p rs) (found q p ss) refl refl
  where
    there : (r : Bytes) → found q p rs ≡ Some r → found q p ss ≡ Some r
    there r e = let f = found_held q p rs r e in held_found q p ss r (apart_shuffled rs ss s a q p) (has_shuffled rs ss r s f.0) f.1

    back : (r : Bytes) → found q p ss ≡ Some r → found q p rs ≡ Some r
    back r e = let f = found_held q p ss r e in held_found q p rs r (a q p) (has_shuffled ss rs r (IsPermutation-sym rs ss s) f.0) f.1

    go : (x y : Option Bytes) → found q p rs ≡ x → found q p ss ≡ y → found q p rs ≡ found q p ss
    go (Some r) y e f = e ∙ sym (there r e)
    go None (Some r) e f = back r f ∙ sym f
    go None None e f = e ∙ sym f
