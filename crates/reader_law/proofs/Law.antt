-- A verdict accepts an answer exactly where it keeps every rule of its kind's row.
use Rattle.std.proofs.Common.{◌≡◌, ℕ, List, length, drop, Ok, sym, ap, ◌∙◌}
use Rattle.notice.specs.declared.answer.Kind.{Kind}
use Rattle.notice.specs.Limits.{answer_head}
use Rattle.reader.specs.declared.types.Question.{Question}
use Rattle.reader.specs.declared.types.Verdict.{Verdict}
use Rattle.reader.specs.Evidence.{evidence_in, text_in}
use Rattle.reader.specs.Verdict.{position_of, accepted, verdict}
use Rattle.reader_law.specs.Rows.{Right}
use Rattle.reader_law.specs.Refusals.{room}
use Rattle.reader_law.proofs.Outcomes.{accepts_from_ok, ok_from_holds, one_kind}
use Rattle.reader_law.proofs.Parts.{Below}
use Rattle.reader_law.proofs.Accepted.{row_accepted}
use Rattle.reader_law.proofs.Rightly.{row_read, form_of, all_hold}

pub right_from_accepted :
    (i k : List ℕ) (q : Question) (n : ℕ) (a : List ℕ) (v : Verdict) → Below a →
    verdict i k q n a ≡ Ok v → Right i k q n a v
right_from_accepted i k q n a v below h =
    let c = accepts_from_ok i k q n a v h in
    record { roomy = c.holds room; kind = c.kind; answers = c.is_form.answers; row = row_accepted i k q n a v below c }

pub accepted_from_right :
    (i k : List ℕ) (q : Question) (n : ℕ) (a : List ℕ) (v : Verdict) → Right i k q n a v → verdict i k q n a ≡ Ok v
accepted_from_right i k q n a v right =
    let read = row_read right.kind i k q a v right.row in
    let o = ok_from_holds i k q n a (all_hold i k q n a v right) in
    let same = one_kind q a o.2.kind right.kind o.2.is_form (form_of right.kind right.answers read) in
    let says = λ (z : Kind). accepted (position_of q.asked) (length (text_in z (drop answer_head a))) (evidence_in z (drop answer_head a)) in
    let e : says right.kind ≡ v = ap (λ t. accepted (position_of q.asked) (length t) (evidence_in right.kind (drop answer_head a))) read.reads.text_is ∙ (ap (accepted (position_of q.asked) (length read.text)) read.reads.shown ∙ read.keeps.says) in
    o.1 ∙ ap Ok (sym o.2.says ∙ (ap says same ∙ e))
