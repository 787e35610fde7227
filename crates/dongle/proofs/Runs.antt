-- What holds of every list of presses.
use Rattle.std.proofs.Common.{◌≡◌, ℕ, ◌<◌, ◌≤◌, List, [], ◌∷◌, ◌++◌, length, get_or, Ok, Err, Result, sym, refl, ap, ◌∙◌, subst, ⊎_elim, arith}
use Rattle.std.proofs.lemmas.List.{get_or-set_same}
use Rattle.std.proofs.lemmas.List.Elements.{Contains-append_cases}
use Rattle.std.specs.List.{Contains}
use Rattle.statement.specs.declared.types.SignedStatement.{SignedStatement}
use Rattle.dongle.specs.declared.fault.DongleFault.{DongleFault}
use Rattle.dongle.specs.Trinket.{Trinket, Whole, stands, signed, attested}
use Rattle.dongle.specs.Presses.{Press, attest, status, reply, pressed, said, after, issued}
use Rattle.dongle.specs.Laws.{Tells, Meet, MonotonicWithoutEquivocation}
use Rattle.dongle.proofs.Replies.{Accepted, attest_accepted, status_accepted, attest_raises, attest_whole}

-- one press lowers no counter, and leaves the trinket whole
press_raises : (limit : ℕ) (t : Trinket) (p : Press) (c : ℕ) → stands t c ≤ stands (pressed limit t p) c
unfolding pressed
press_raises limit t (attest k to matter room) c = attest_raises limit t k to room c
press_raises limit t (status k nonce room) c = omega arith

press_whole : (limit : ℕ) (t : Trinket) (p : Press) → Whole t → Whole (pressed limit t p)
unfolding pressed
press_whole limit t (attest k to matter room) w = attest_whole limit t k to room w
press_whole limit t (status k nonce room) w = w

pub never_falls : (limit : ℕ) (t : Trinket) (presses : List Press) (c : ℕ) → stands t c ≤ stands (after limit t presses) c
unfolding after
never_falls limit t [] c = omega arith
never_falls limit t (p ∷ ps) c =
    omega (arith, press_raises limit t p c, never_falls limit (pressed limit t p) ps c)

pub after_whole : (limit : ℕ) (t : Trinket) (presses : List Press) → Whole t → Whole (after limit t presses)
unfolding after
after_whole limit t [] w = w
after_whole limit t (p ∷ ps) w = after_whole limit (pressed limit t p) ps (press_whole limit t p w)

-- the presses of two lists, one list after the other
pub after-append : (limit : ℕ) (t : Trinket) (ps qs : List Press) →
    after limit t (ps ++ qs) ≡ after limit (after limit t ps) qs
unfolding after
after-append limit t [] qs = refl
after-append limit t (p ∷ ps) qs = after-append limit (pressed limit t p) ps qs

-- one more press at the end
after_one : (limit : ℕ) (t : Trinket) (ps : List Press) (p : Press) →
    after limit t (ps ++ p ∷ []) ≡ pressed limit (after limit t ps) p
unfolding after
after_one limit t ps p = after-append limit t ps (p ∷ [])

-- an accepted attest leaves its counter at the number asked for
lands : (limit : ℕ) (t : Trinket) (c to : ℕ) (matter : List ℕ) (room : ℕ) (s : SignedStatement) → Whole t →
    Accepted limit t c to matter room s → to ≡ stands (attested limit t c to room) c
lands limit t c to matter room s w ok =
    let long : c < length t.numbers = omega (arith, ok.within, w.sixteen) in
    sym (ap (λ ns. get_or ns c 0) ok.sets ∙ get_or-set_same t.numbers c to 0 long)

-- what a signed statement tells
tells_signed : (t : Trinket) (c old new : ℕ) (matter : List ℕ) (s : SignedStatement) → s ≡ signed t c old new matter → Tells s c old new matter
tells_signed t c old new matter s e =
    record {
      counter_is = ap (λ x. x.statement.counter) e;
      old_is = ap (λ x. x.statement.old) e;
      new_is = ap (λ x. x.statement.new) e;
      matter_is = ap (λ x. x.statement.matter) e;
    }

pub advance_tells : (limit : ℕ) (t : Trinket) → Whole t → (before : List Press) (c to : ℕ) (matter : List ℕ) (room : ℕ) (s : SignedStatement) →
    reply limit (after limit t before) (attest c to matter room) ≡ Ok s →
    Tells s c (stands (after limit t before) c) (stands (after limit t (before ++ attest c to matter room ∷ [])) c) matter
    × (stands (after limit t before) c < stands (after limit t (before ++ attest c to matter room ∷ [])) c)
unfolding reply pressed
advance_tells limit t w before c to matter room s h =
    let u = after limit t before in
    let ok = attest_accepted limit u c to matter room s h in
    let end : to ≡ stands (after limit t (before ++ attest c to matter room ∷ [])) c =
    lands limit u c to matter room s (after_whole limit t before w) ok
    ∙ ap (λ v. stands v c) (sym (after_one limit t before (attest c to matter room))) in (
      subst (λ n. Tells s c (stands u c) n matter) end (tells_signed u c (stands u c) to matter s ok.says),
      subst (λ n. stands u c < n) end ok.rises,
    )

pub status_tells : (limit : ℕ) (t : Trinket) (before : List Press) (c : ℕ) (nonce : List ℕ) (room : ℕ) (s : SignedStatement) →
    reply limit (after limit t before) (status c nonce room) ≡ Ok s →
    Tells s c (stands (after limit t before) c) (stands (after limit t before) c) nonce
unfolding reply
status_tells limit t before c nonce room s h =
    let u = after limit t before in
    tells_signed u c (stands u c) (stands u c) nonce s (status_accepted u c nonce room s h)

-- what a reply says is the statement that it holds
contains_said : (s : SignedStatement) (r : Result SignedStatement DongleFault) → Contains (said r) s → r ≡ Ok s
contains_said s (Ok x) (k, lt, e) = let first : k ≡ 0 = omega arith in ap Ok (ap (λ i. get_or (x ∷ []) i s) (sym first) ∙ e)
contains_said s (Err fault) (k, lt, e) = absurd (omega arith)

-- a statement that a press issued begins where its counter stood, and ends at most where it stands then
begins : (limit : ℕ) (t : Trinket) (p : Press) (s : SignedStatement) → reply limit t p ≡ Ok s →
    stands t s.statement.counter ≡ s.statement.old
unfolding reply
begins limit t (attest c to matter room) s h =
    let says = (attest_accepted limit t c to matter room s h).says in
    ap (λ x. stands t x.statement.counter) says ∙ sym (ap (λ x. x.statement.old) says)
begins limit t (status c nonce room) s h =
    let says = status_accepted t c nonce room s h in
    ap (λ x. stands t x.statement.counter) says ∙ sym (ap (λ x. x.statement.old) says)

ends : (limit : ℕ) (t : Trinket) (p : Press) (s : SignedStatement) → Whole t → reply limit t p ≡ Ok s →
    s.statement.new ≡ stands (pressed limit t p) s.statement.counter
unfolding reply pressed
ends limit t (attest c to matter room) s w h =
    let ok = attest_accepted limit t c to matter room s h in
    let u = attested limit t c to room in
    ap (λ x. x.statement.new) ok.says ∙ lands limit t c to matter room s w ok
    ∙ sym (ap (λ x. stands u x.statement.counter) ok.says)
ends limit t (status c nonce room) s w h =
    let says = status_accepted t c nonce room s h in
    ap (λ x. x.statement.new) says ∙ sym (ap (λ x. stands t x.statement.counter) says)

-- every statement of a list of presses begins at or above where its counter stood at first
pub not_before : (limit : ℕ) (t : Trinket) (presses : List Press) (s : SignedStatement) →
    Contains (issued limit t presses) s → stands t s.statement.counter ≤ s.statement.old
unfolding issued
not_before limit t [] s (i, lt, e) = absurd (omega arith)
not_before limit t (p ∷ ps) s h =
    ⊎_elim
    (λ k. omega (arith, begins limit t p s (contains_said s (reply limit t p) k)))
    (λ k. omega (arith, press_raises limit t p s.statement.counter, not_before limit (pressed limit t p) ps s k))
    (Contains-append_cases (said (reply limit t p)) (issued limit (pressed limit t p) ps) s h)

-- a statement that a press issued, and one that was issued later, do not meet
apart : (limit : ℕ) (t : Trinket) (p : Press) (ps : List Press) (a b : SignedStatement) → Whole t →
    Contains (said (reply limit t p)) a → Contains (issued limit (pressed limit t p) ps) b →
    a.statement.counter ≡ b.statement.counter → a.statement.new ≤ b.statement.old
apart limit t p ps a b w h k same =
    let upper = ends limit t p a w (contains_said a (reply limit t p) h) in
    let lower = not_before limit (pressed limit t p) ps b k in
    let one = ap (stands (pressed limit t p)) same in
    omega arith

pub no_equivocation : (limit : ℕ) (t : Trinket) → Whole t → (presses : List Press) (a b : SignedStatement) →
    Contains (issued limit t presses) a → Contains (issued limit t presses) b → Meet a b → a ≡ b
unfolding issued
no_equivocation limit t w [] a b (i, lt, e) k m = absurd (omega arith)
no_equivocation limit t w (p ∷ ps) a b h k m =
    let later = issued limit (pressed limit t p) ps in
    ⊎_elim
    (λ ha.
    ⊎_elim
    (λ kb. let e = contains_said a (reply limit t p) ha in let f = contains_said b (reply limit t p) kb in cc)
    (λ kb. absurd (omega (arith, apart limit t p ps a b w ha kb m.counters, m.b_begins)))
    (Contains-append_cases (said (reply limit t p)) later b k))
    (λ ha.
    ⊎_elim
    (λ kb. absurd (omega (arith, apart limit t p ps b a w kb ha (sym m.counters), m.a_begins)))
    (λ kb. no_equivocation limit (pressed limit t p) (press_whole limit t p w) ps a b ha kb m)
    (Contains-append_cases (said (reply limit t p)) later b k))
    (Contains-append_cases (said (reply limit t p)) later a h)

pub monotonic_without_equivocation : MonotonicWithoutEquivocation
monotonic_without_equivocation =
    record {
      never_falls = never_falls;
      advance_tells_its_step = λ limit t w before c to matter room s h. (advance_tells limit t w before c to matter room s h).0;
      advance_rises = λ limit t w before c to matter room s h. (advance_tells limit t w before c to matter room s h).1;
      status_tells_its_place = status_tells;
      no_equivocation = no_equivocation;
    }
