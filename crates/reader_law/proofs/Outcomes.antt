-- A verdict is a refusal by the first rule that fails, or every rule holds and it says what the rules say.
use Rattle.std.proofs.Common.{◌≡◌, ℕ, ◌+◌, ◌-◌, ◌<◌, ◌≤◌, Bool, true, false, cond, eqb, ◌⊎◌, List, length, get_or, drop, Some, None, Ok, Err, Option, Result, leb, Decides, sym, refl, ap, ◌∙◌, subst, inl, inr, ⊎_elim, arith}
use Rattle.std.proofs.lemmas.Bool.{cases_lt, leb-true, le-leb}
use Rattle.std.proofs.lemmas.Bool.Decides.{nat_tests, Decides-eqb}
use Rattle.std.proofs.lemmas.Option.{none-some, same_Some}
use Rattle.std.specs.Option.{ok_or}
use Rattle.notice.specs.declared.answer.Kind.{Kind}
use Rattle.notice.specs.declared.answer.Kind.TheVariants as kinds
use Rattle.notice.specs.Limits.{answer_head}
use Rattle.notice.specs.Answer.{number_of_kind, kind_of, answer_length}
use Rattle.reader.specs.declared.types.Question.{Question}
use Rattle.reader.specs.declared.types.Verdict.{Verdict}
use Rattle.reader.specs.declared.fault.ReaderFault.{ReaderFault}
use Rattle.reader.specs.declared.fault.ReaderFault.TheVariants.{ShortWorkingArea, WrongLength, WrongForm}
use Rattle.reader.specs.Evidence.{evidence_in, text_in}
use Rattle.reader.specs.Rules.{Said, demanded, ◌>>=◌, tags, origins, nonces, digests}
use Rattle.reader.specs.Rules as rules
use Rattle.reader.specs.Verdict.{working_size, right_form, position_of, accepted, decided_by_kind, verdict}
use Rattle.reader_law.specs.Refusals.{Rule, room, size, form, tag, origin, nonce, numbers, digest, place, refusal, Form, Read, OfKind, Holds, FirstFailing, refusal_number}
use Rattle.reader_law.proofs.Settled.{Settles, settled, both, tags_settle, origins_settle, nonces_settle, numbers_settle, digests_settle}

-- every rule holds, and the verdict is what the answer's evidence says
pub record Accepts (i k : List ℕ) (q : Question) (n : ℕ) (a : List ℕ) (v : Verdict) : Type 0 where
  pub holds : (rule : Rule) → Holds i k q n a rule
  pub kind : Kind
  pub is_form : Form q.asked a kind
  pub says : accepted (position_of q.asked) (length (text_in kind (drop answer_head a))) (evidence_in kind (drop answer_head a)) ≡ v

abbrev pub Outcome : List ℕ → List ℕ → Question → ℕ → List ℕ → Result Verdict ReaderFault → Type 0
Outcome i k q n a r =
    ((rule : Rule) × FirstFailing i k q n a rule × (refusal_number r ≡ Some (refusal rule)))
    ⊎ ((v : Verdict) × (r ≡ Ok v) × Accepts i k q n a v)

abbrev Before : List ℕ → List ℕ → Question → ℕ → List ℕ → ℕ → Type 0
Before i k q n a m = (other : Rule) → place other < m → Holds i k q n a other

rule_at : ℕ → Rule
rule_at m =
    cond (eqb m 0) room (cond (eqb m 1) size (cond (eqb m 2) form (cond (eqb m 3) tag
    (cond (eqb m 4) origin (cond (eqb m 5) nonce (cond (eqb m 6) numbers digest))))))

-- a rule by its place, and its place by its number
record Placed (r : Rule) : Type 0 where
  at : rule_at (place r) ≡ r
  numbered : place r ≡ refusal r - 15
  within : place r < 8

placed : (r : Rule) → Placed r
unfolding rule_at
placed room = record { at = refl; numbered = refl; within = omega arith }
placed size = record { at = refl; numbered = refl; within = omega arith }
placed form = record { at = refl; numbered = refl; within = omega arith }
placed tag = record { at = refl; numbered = refl; within = omega arith }
placed origin = record { at = refl; numbered = refl; within = omega arith }
placed nonce = record { at = refl; numbered = refl; within = omega arith }
placed numbers = record { at = refl; numbered = refl; within = omega arith }
placed digest = record { at = refl; numbered = refl; within = omega arith }

same_place : (r s : Rule) → place r ≡ place s → r ≡ s
same_place r s e = sym (placed r).at ∙ (ap rule_at e ∙ (placed s).at)

same_refusal : (r s : Rule) → refusal r ≡ refusal s → r ≡ s
same_refusal r s e = same_place r s ((placed r).numbered ∙ (ap (λ n. n - 15) e ∙ sym (placed s).numbered))

-- one rule more
also :
    (i k : List ℕ) (q : Question) (n : ℕ) (a : List ℕ) (r : Rule) → Before i k q n a (place r) → Holds i k q n a r →
    Before i k q n a (place r + 1)
also i k q n a r before here other lt =
    ⊎_elim
    (λ less. before other less)
    (λ more. let P : Rule → Type 0 = λ z. Holds i k q n a z in subst P (same_place r other (omega arith)) here)
    (cases_lt (place other) (place r))

-- a rule, and what comes after it
at_rule :
    (i k : List ℕ) (q : Question) (n : ℕ) (a : List ℕ) (r : Rule) (said : Said) (next : Result Verdict ReaderFault) (T : Type 0) →
    Settles (refusal r) said T → (T → Holds i k q n a r) → (Holds i k q n a r → T) → Before i k q n a (place r) →
    (Before i k q n a (place r + 1) → Outcome i k q n a next) → Outcome i k q n a (said >>= (λ _. next))
at_rule i k q n a r (Ok u) next T s to from before more = more (also i k q n a r before (to (s.keeps refl)))
at_rule i k q n a r (Err fault) next T s to from before more =
    inl (r, record { before = before; fails = λ h. let w = s.passes (from h) in cc }, ap Some (s.tells fault refl))

kind_back : (kind : Kind) → kind_of (number_of_kind kind) ≡ Some kind
kind_back kinds.Found = refl
kind_back kinds.Skipped = refl
kind_back kinds.Forgotten = refl
kind_back kinds.NotYet = refl
kind_back kinds.End = refl
kind_back kinds.EndOfEmpty = refl

-- only the number of a kind gives it
number_from_kind : (m : ℕ) (kind : Kind) → kind_of m ≡ Some kind → m ≡ number_of_kind kind
number_from_kind m kinds.Found h = grind (arith, nat_tests)
number_from_kind m kinds.Skipped h = grind (arith, nat_tests)
number_from_kind m kinds.Forgotten h = grind (arith, nat_tests)
number_from_kind m kinds.NotYet h = grind (arith, nat_tests)
number_from_kind m kinds.End h = grind (arith, nat_tests)
number_from_kind m kinds.EndOfEmpty h = grind (arith, nat_tests)

-- the first three bytes are of one kind
pub one_kind : (q : Question) (a : List ℕ) (x y : Kind) → Form q.asked a x → Form q.asked a y → x ≡ y
one_kind q a x y f g =
    let e : number_of_kind x ≡ number_of_kind y = sym f.number_is ∙ g.number_is in
    let s : Some x ≡ Some y = sym (kind_back x) ∙ (ap kind_of e ∙ kind_back y) in cc

pub of_kind :
    (r : Rule) (i k : List ℕ) (q : Question) (a : List ℕ) (kind : Kind) → Form q.asked a kind →
    Read r i k q (text_in kind (drop answer_head a)) (evidence_in kind (drop answer_head a)) → OfKind r i k q a
of_kind r i k q a kind f h other g =
    let P : Kind → Type 0 = λ z. Read r i k q (text_in z (drop answer_head a)) (evidence_in z (drop answer_head a)) in
    subst P (one_kind q a kind other f g) h

decided_outcome :
    (i k : List ℕ) (q : Question) (n : ℕ) (a : List ℕ) (kind : Kind) → Form q.asked a kind → Before i k q n a 3 →
    Outcome i k q n a (decided_by_kind i k q (drop answer_head a) kind)
decided_outcome i k q n a kind f before =
    let e = evidence_in kind (drop answer_head a) in
    let t = text_in kind (drop answer_head a) in
    let p = position_of q.asked in
    at_rule i k q n a tag (tags k e) _ _ (tags_settle k e) (of_kind tag i k q a kind f) (λ h. h kind f) before (λ b4.
    at_rule i k q n a origin (origins i q.queue e) _ _ (origins_settle i q.queue e) (of_kind origin i k q a kind f) (λ h. h kind f) b4 (λ b5.
    at_rule i k q n a nonce (nonces q.nonce e) _ _ (nonces_settle q.nonce e) (of_kind nonce i k q a kind f) (λ h. h kind f) b5 (λ b6.
    at_rule i k q n a numbers (rules.numbers p e) _ _ (numbers_settle p e) (of_kind numbers i k q a kind f) (λ h. h kind f) b6 (λ b7.
    at_rule i k q n a digest (digests q.queue t e) _ _ (digests_settle q.queue t e) (of_kind digest i k q a kind f) (λ h. h kind f) b7 (λ b8.
    inr (accepted p (length t) e, refl, record { holds = λ r. b8 r (placed r).within; kind = kind; is_form = f; says = refl }))))))

-- the form of the first three bytes
form_outcome :
    (i k : List ℕ) (q : Question) (n : ℕ) (a : List ℕ) (o : Option Kind) → kind_of (get_or a 0 0) ≡ o → Before i k q n a 2 →
    Outcome i k q n a
    ((ok_or o WrongForm >>= (λ kind. demanded (right_form q.asked kind (get_or a 1 0) (get_or a 2 0)) WrongForm >>= (λ _. Ok kind)))
    >>= decided_by_kind i k q (drop answer_head a))
form_outcome i k q n a None e before =
    inl (
      form,
      record {
        before = before;
        fails = λ h. let w = sym (kind_back h.0) ∙ (ap kind_of (sym h.1.number_is) ∙ e) in cc;
      },
      refl,
    )
form_outcome i k q n a (Some kind) e before = right (right_form q.asked kind (get_or a 1 0) (get_or a 2 0)) refl
  where
    fits : Decides (right_form q.asked kind (get_or a 1 0) (get_or a 2 0)) (Form q.asked a kind)
    fits = (
      (λ h. record {
        number_is = number_from_kind (get_or a 0 0) kind e;
        answers = grind (arith, nat_tests);
        count_is = grind (arith, nat_tests);
        size_is = grind (arith, nat_tests);
      }),
      (λ f. let c = f.count_is in let s = f.size_is in let g = f.answers in grind (arith, nat_tests)),
    )

    right :
        (b : Bool) → right_form q.asked kind (get_or a 1 0) (get_or a 2 0) ≡ b →
        Outcome i k q n a ((demanded b WrongForm >>= (λ _. Ok kind)) >>= decided_by_kind i k q (drop answer_head a))
    right true h = let f = fits.0 h in decided_outcome i k q n a kind f (also i k q n a form before (kind, f))
    right false h =
        inl (
          form,
          record {
            before = before;
            fails = λ g.
                let s : Some g.0 ≡ Some kind = sym (kind_back g.0) ∙ (ap kind_of (sym g.1.number_is) ∙ e) in
                let same : g.0 ≡ kind = cc in
                let P : Kind → Type 0 = λ z. Form q.asked a z in
                let yes' = fits.1 (subst P same g.1) in cc;
          },
          refl,
        )

leb_decides : (m n : ℕ) → Decides (leb m n) (m ≤ n)
leb_decides m n = (leb-true m n, le-leb m n)

pub outcome : (i k : List ℕ) (q : Question) (n : ℕ) (a : List ℕ) → Outcome i k q n a (verdict i k q n a)
unfolding verdict
outcome i k q n a =
    let total = answer_length (get_or a 0 0) (get_or a 1 0) (get_or a 2 0) in
    let rest = ok_or (kind_of (get_or a 0 0)) WrongForm >>= (λ kind. demanded (right_form q.asked kind (get_or a 1 0) (get_or a 2 0)) WrongForm >>= (λ _. Ok kind)) in
    let P : Result Verdict ReaderFault → Type 0 = λ z. Outcome i k q n a z in
    at_rule i k q n a room _ _ (working_size ≤ n) (settled (refusal room) _ ShortWorkingArea _ refl (leb_decides _ _)) (λ h. h) (λ h. h) (λ other lt. absurd (omega arith)) (λ b1.
    subst P (regroup (demanded (leb answer_head (length a)) WrongLength) (demanded (eqb (length a) total) WrongLength) rest (decided_by_kind i k q (drop answer_head a)))
    (at_rule i k q n a size _ _ _
    (both (refusal size) _ _ _ _ (settled (refusal size) _ WrongLength _ refl (leb_decides answer_head (length a))) (settled (refusal size) _ WrongLength _ refl (Decides-eqb (length a) total)))
    (λ h. h) (λ h. h) b1 (λ b2.
    form_outcome i k q n a (kind_of (get_or a 0 0)) refl b2)))
  where
    regroup :
        (x y : Said) (z : Result Kind ReaderFault) (f : Kind → Result Verdict ReaderFault) →
        ((x >>= (λ _. y)) >>= (λ _. z >>= f)) ≡ ((x >>= (λ _. y >>= (λ _. z))) >>= f)
    regroup (Ok u) (Ok w) z f = refl
    regroup (Ok u) (Err w) z f = refl
    regroup (Err u) y z f = refl

-- a refusal is of the first rule that fails
pub first_from_number :
    (i k : List ℕ) (q : Question) (n : ℕ) (a : List ℕ) (r : Rule) →
    refusal_number (verdict i k q n a) ≡ Some (refusal r) → FirstFailing i k q n a r
first_from_number i k q n a r h =
    ⊎_elim
    (λ o. let P : Rule → Type 0 = λ z. FirstFailing i k q n a z in subst P (same_refusal o.0 r (same_Some _ _ (sym o.2 ∙ h))) o.1)
    (λ o. absurd (none-some _ (sym (ap refusal_number o.1) ∙ h)))
    (outcome i k q n a)

-- and the first rule that fails gives its number
pub number_from_first :
    (i k : List ℕ) (q : Question) (n : ℕ) (a : List ℕ) (r : Rule) →
    FirstFailing i k q n a r → refusal_number (verdict i k q n a) ≡ Some (refusal r)
number_from_first i k q n a r f =
    ⊎_elim
    (λ o.
    ⊎_elim
    (λ less. absurd (o.1.fails (f.before o.0 less)))
    (λ more.
    ⊎_elim
    (λ less. absurd (f.fails (o.1.before r less)))
    (λ most. o.2 ∙ ap (λ z. Some (refusal z)) (same_place o.0 r (omega arith)))
    (cases_lt (place r) (place o.0)))
    (cases_lt (place o.0) (place r)))
    (λ o. absurd (f.fails (o.2.holds r)))
    (outcome i k q n a)

-- a verdict that accepts, accepts by every rule
pub accepts_from_ok :
    (i k : List ℕ) (q : Question) (n : ℕ) (a : List ℕ) (v : Verdict) →
    verdict i k q n a ≡ Ok v → Accepts i k q n a v
accepts_from_ok i k q n a v h =
    ⊎_elim
    (λ o. absurd (none-some _ (sym (ap refusal_number h) ∙ o.2)))
    (λ o. let P : Verdict → Type 0 = λ z. Accepts i k q n a z in
    let ok : Ok o.0 ≡ Ok v = sym o.1 ∙ h in
    let same : o.0 ≡ v = cc in subst P same o.2)
    (outcome i k q n a)

-- and where every rule holds, it accepts
pub ok_from_holds :
    (i k : List ℕ) (q : Question) (n : ℕ) (a : List ℕ) → ((r : Rule) → Holds i k q n a r) →
    (v : Verdict) × (verdict i k q n a ≡ Ok v) × Accepts i k q n a v
ok_from_holds i k q n a all =
    ⊎_elim
    (λ o. absurd (o.1.fails (all o.0)))
    (λ o. o)
    (outcome i k q n a)
