-- An answer that keeps every rule of its kind's row keeps every rule that is tried.
use Rattle.std.proofs.Common.{◌≡◌, ℕ, ◌+◌, ◌-◌, ◌*◌, ◌≤◌, true, false, ◌==◌, List, [], ◌∷◌, ◌++◌, length, get_or, drop, sym, refl, ap, ◌∙◌, subst, arith}
use Rattle.std.proofs.lemmas.List.{length-append}
use Rattle.std.proofs.lemmas.Bool.{le-leb}
use Rattle.digest.specs.Hmac.{hmac}
use Rattle.statement.specs.declared.types.SignedStatement.{SignedStatement}
use Rattle.statement.specs.Layout.{encoded, SizedSigned, signed_statement_size}
use Rattle.notice.specs.declared.answer.Kind.{Kind}
use Rattle.notice.specs.declared.answer.Kind.TheVariants.{Found, Skipped, Forgotten, NotYet, End, EndOfEmpty}
use Rattle.notice.specs.Limits.{answer_head, previous_size, text_limit}
use Rattle.notice.specs.Answer.{number_of_kind, statements_of, has_text, answer_bytes, answer_length, head_length}
use Rattle.reader.specs.declared.types.Question.{Question}
use Rattle.reader.specs.declared.types.Verdict.{Verdict}
use Rattle.reader.specs.declared.evidence.Evidence.{Evidence}
use Rattle.reader.specs.declared.evidence.Evidence.TheVariants as evidence
use Rattle.reader.specs.Evidence.{signed_in, evidence_in, text_in}
use Rattle.reader.specs.Rules.{counter_for}
use Rattle.reader.specs.Verdict.{answers_to, right_size, position_of, verdict_with, accepted}
use Rattle.reader_law.specs.Rows.{Row, Right}
use Rattle.reader_law.specs.Refusals.{Rule, room, size, form, tag, origin, nonce, numbers, digest, Form, Every, Fresh, Shows, Digested, OfKind, Holds}
use Rattle.reader_law.specs.Refusals as rules
use Rattle.reader_law.proofs.Outcomes.{of_kind}
use Rattle.reader_law.proofs.Parts.{tail_of, bytes_of_one, bytes_of_two, one_read, two_read, stands, answer_of_one, answer_of_two}

-- what an answer of a kind is read as
pub record Reads (kind : Kind) (answer text : List ℕ) (e : Evidence) : Type 0 where
  pub number_is : get_or answer 0 0 ≡ number_of_kind kind
  pub count_is : get_or answer 1 0 ≡ statements_of kind
  pub size_is : right_size kind (get_or answer 2 0) ≡ true
  pub long : answer_head ≤ length answer
  pub total_is : length answer ≡ answer_length (get_or answer 0 0) (get_or answer 1 0) (get_or answer 2 0)
  pub shown : evidence_in kind (drop answer_head answer) ≡ e
  pub text_is : text_in kind (drop answer_head answer) ≡ text

-- every rule over the statements holds of the evidence, and what is accepted
pub record Keeps (identity key : List ℕ) (question : Question) (text : List ℕ) (e : Evidence) (v : Verdict) : Type 0 where
  pub tagged : Every (λ s. s.tag ≡ hmac key (encoded s.statement)) e
  pub origin_is : Every (λ s. (s.statement.identity ≡ identity) × (s.statement.counter ≡ counter_for question.queue e)) e
  pub fresh : Fresh question.nonce e
  pub shows : Shows (position_of question.asked) e
  pub digested : Digested question.queue text e
  pub says : accepted (position_of question.asked) (length text) e ≡ v

-- a row, read
pub record Read (kind : Kind) (identity key : List ℕ) (question : Question) (answer : List ℕ) (v : Verdict) : Type 0 where
  pub text : List ℕ
  pub evidence : Evidence
  pub reads : Reads kind answer text evidence
  pub keeps : Keeps identity key question text evidence v

-- the first three bytes of an answer that begins with them
record Headed (answer rest : List ℕ) (n c z : ℕ) : Type 0 where
  first : get_or answer 0 0 ≡ n
  second : get_or answer 1 0 ≡ c
  third : get_or answer 2 0 ≡ z
  behind : drop answer_head answer ≡ rest
  total : length answer ≡ answer_head + length rest

headed_as : (answer rest : List ℕ) (n c z : ℕ) → answer ≡ n ∷ c ∷ z ∷ rest → Headed answer rest n c z
headed_as answer rest n c z e =
    record {
      first = ap (λ xs. get_or xs 0 0) e;
      second = ap (λ xs. get_or xs 1 0) e;
      third = ap (λ xs. get_or xs 2 0) e;
      behind = ap (drop answer_head) e;
      total = ap length e ∙ omega arith;
    }

three_same :
    (f : ℕ → ℕ → ℕ → ℕ) {x y z n c m : ℕ} → x ≡ n → y ≡ c → z ≡ m → f x y z ≡ f n c m
three_same f p q r = cc

-- a kind with no text: one statement, and nothing after it
pub record BareKind (kind : Kind) : Type 0 where
  pub single : statements_of kind ≡ 1
  pub ends : tail_of kind [] [] ≡ []
  pub empty : (n : ℕ) → right_size kind n ≡ (n == 0)
  pub head_is : head_length kind ≡ answer_head + signed_statement_size
  pub total_is : answer_length (number_of_kind kind) 1 0 ≡ answer_head + signed_statement_size

pub bare_kind : (kind : Kind) → has_text kind ≡ false → BareKind kind
bare_kind Found h = absurd (cc)
bare_kind Skipped h = record { single = refl; ends = refl; empty = λ n. refl; head_is = refl; total_is = refl }
bare_kind Forgotten h = record { single = refl; ends = refl; empty = λ n. refl; head_is = refl; total_is = refl }
bare_kind NotYet h = record { single = refl; ends = refl; empty = λ n. refl; head_is = refl; total_is = refl }
bare_kind End h = absurd (cc)
bare_kind EndOfEmpty h = record { single = refl; ends = refl; empty = λ n. refl; head_is = refl; total_is = refl }

-- an answer in the layout of a kind with one statement and no text
bare :
    (kind : Kind) (answer : List ℕ) (s : SignedStatement) (e : SignedStatement → Evidence) → SizedSigned s →
    ((xs : List ℕ) → evidence_in kind xs ≡ e (signed_in 1 0 xs)) → has_text kind ≡ false →
    answer ≡ answer_bytes kind (s ∷ []) [] [] → Reads kind answer [] (e s)
bare kind answer s e sized shown no_text layout =
    let k = bare_kind kind no_text in
    let tail = tail_of kind [] [] in
    let none : tail ≡ [] = k.ends in
    let h = headed_as answer (bytes_of_one s tail) (number_of_kind kind) 1 0 (layout ∙ answer_of_one kind s [] []) in
    let r = one_read (drop answer_head answer) tail s sized h.behind in
    let length_is : length answer ≡ answer_head + signed_statement_size = omega (arith, h.total, ap length h.behind, r.total, ap length none) in
    record {
      number_is = h.first;
      count_is = h.second ∙ sym k.single;
      size_is = ap (right_size kind) h.third ∙ k.empty 0;
      long = omega arith;
      total_is = length_is ∙ (sym k.total_is ∙ sym (three_same answer_length h.first h.second h.third));
      shown = shown (drop answer_head answer) ∙ ap e r.first;
      text_is = ap (λ n. drop (n - answer_head) (drop answer_head answer)) k.head_is ∙ (r.behind ∙ none);
    }

found :
    (answer previous text : List ℕ) (s : SignedStatement) → SizedSigned s → length previous ≡ previous_size →
    length text ≤ text_limit → answer ≡ answer_bytes Found (s ∷ []) previous text →
    Reads Found answer text (evidence.Found s previous)
found answer previous text s sized p short layout =
    let h = headed_as answer (bytes_of_one s (previous ++ text)) 1 1 (length text) (layout ∙ answer_of_one Found s previous text) in
    let r = one_read (drop answer_head answer) (previous ++ text) s sized h.behind in
    let d = stands signed_statement_size previous_size (drop answer_head answer) previous text r.behind p in
    let l = length-append previous text in
    let length_is : length answer ≡ head_length Found + length text = omega (arith, h.total, ap length h.behind, r.total) in
    record {
      number_is = h.first;
      count_is = h.second;
      size_is = ap (right_size Found) h.third ∙ le-leb (length text) text_limit short;
      long = omega arith;
      total_is = (length_is ∙ omega arith) ∙ sym (three_same answer_length h.first h.second h.third);
      shown = let a = r.first in let b = d.here in cc;
      text_is = d.next;
    }

end :
    (answer previous text : List ℕ) (s t : SignedStatement) → SizedSigned s → SizedSigned t → length previous ≡ previous_size →
    length text ≤ text_limit → answer ≡ answer_bytes End (s ∷ t ∷ []) previous text →
    Reads End answer text (evidence.End s t previous)
end answer previous text s t sized also p short layout =
    let h = headed_as answer (bytes_of_two s t (previous ++ text)) 5 2 (length text) (layout ∙ answer_of_two End s t previous text) in
    let r = two_read (drop answer_head answer) (previous ++ text) s t sized also h.behind in
    let d = stands (signed_statement_size * 2) previous_size (drop answer_head answer) previous text r.behind p in
    let l = length-append previous text in
    let length_is : length answer ≡ head_length End + length text = omega (arith, h.total, ap length h.behind, r.total) in
    record {
      number_is = h.first;
      count_is = h.second;
      size_is = ap (right_size End) h.third ∙ le-leb (length text) text_limit short;
      long = omega arith;
      total_is = (length_is ∙ omega arith) ∙ sym (three_same answer_length h.first h.second h.third);
      shown = let a = r.first in let b = r.second in let c = d.here in cc;
      text_is = d.next;
    }

pub row_read :
    (kind : Kind) (identity key : List ℕ) (question : Question) (answer : List ℕ) (v : Verdict) →
    Row kind identity key question answer v → Read kind identity key question answer v
row_read Found identity key question answer v row =
    record {
      text = row.text;
      evidence = evidence.Found row.advance row.previous;
      reads = found answer row.previous row.text row.advance row.signed.sized row.previous_bytes row.short row.layout;
      keeps = record {
        tagged = (row.signed.signed, tt);
        origin_is = ((row.signed.of_dongle, row.signed.of_counter), tt);
        fresh = tt;
        shows = (row.advances, row.reaches);
        digested = row.digest;
        says = sym row.says;
      };
    }
row_read Skipped identity key question answer v row =
    record {
      text = [];
      evidence = evidence.Skipped row.advance;
      reads = bare Skipped answer row.advance evidence.Skipped row.signed.sized (λ xs. refl) refl row.layout;
      keeps = record {
        tagged = (row.signed.signed, tt);
        origin_is = ((row.signed.of_dongle, row.signed.of_counter), tt);
        fresh = tt;
        shows = (row.advances, (row.from_below, row.to_above));
        digested = tt;
        says = sym row.says;
      };
    }
row_read Forgotten identity key question answer v row =
    record {
      text = [];
      evidence = evidence.Forgotten row.status;
      reads = bare Forgotten answer row.status evidence.Forgotten row.signed.sized (λ xs. refl) refl row.layout;
      keeps = record {
        tagged = (row.signed.signed, tt);
        origin_is = ((row.signed.of_dongle, row.signed.of_counter), tt);
        fresh = row.nonce;
        shows = (row.stands, row.above);
        digested = tt;
        says = sym row.says;
      };
    }
row_read NotYet identity key question answer v row =
    record {
      text = [];
      evidence = evidence.NotYet row.status;
      reads = bare NotYet answer row.status evidence.NotYet row.signed.sized (λ xs. refl) refl row.layout;
      keeps = record {
        tagged = (row.signed.signed, tt);
        origin_is = ((row.signed.of_dongle, row.signed.of_counter), tt);
        fresh = row.nonce;
        shows = (row.stands, row.below);
        digested = tt;
        says = sym row.says;
      };
    }
row_read End identity key question answer v row =
    record {
      text = row.text;
      evidence = evidence.End row.status row.advance row.previous;
      reads = end answer row.previous row.text row.status row.advance row.signed.sized row.also_signed.sized row.previous_bytes row.short row.layout;
      keeps = record {
        tagged = (row.signed.signed, row.also_signed.signed);
        origin_is = ((row.signed.of_dongle, row.signed.of_counter), (row.also_signed.of_dongle, row.also_signed.of_counter));
        fresh = row.nonce;
        shows = ((row.stands, row.written), (row.advances, row.reaches));
        digested = row.digest;
        says = sym row.says;
      };
    }
row_read EndOfEmpty identity key question answer v row =
    record {
      text = [];
      evidence = evidence.EndOfEmpty row.status;
      reads = bare EndOfEmpty answer row.status evidence.EndOfEmpty row.signed.sized (λ xs. refl) refl row.layout;
      keeps = record {
        tagged = (row.signed.signed, tt);
        origin_is = ((row.signed.of_dongle, row.signed.of_counter), tt);
        fresh = row.nonce;
        shows = (row.stands, row.empty);
        digested = tt;
        says = ap (λ high. verdict_with EndOfEmpty 0 high 0 0) row.empty ∙ sym row.says;
      };
    }

pub form_of :
    {identity key : List ℕ} {question : Question} {answer : List ℕ} {v : Verdict} (kind : Kind) →
    answers_to question.asked kind ≡ true → Read kind identity key question answer v → Form question.asked answer kind
form_of kind asks read =
    record { number_is = read.reads.number_is; answers = asks; count_is = read.reads.count_is; size_is = read.reads.size_is }

pub all_hold :
    (i k : List ℕ) (q : Question) (n : ℕ) (a : List ℕ) (v : Verdict) → Right i k q n a v → (rule : Rule) → Holds i k q n a rule
all_hold i k q n a v right = holds
  where
    read : Read right.kind i k q a v
    read = row_read right.kind i k q a v right.row

    is_form : Form q.asked a right.kind
    is_form = form_of right.kind right.answers read

    of : (rule : Rule) → rules.Read rule i k q read.text read.evidence → OfKind rule i k q a
    of rule kept = of_kind rule i k q a right.kind is_form (subst (λ t. rules.Read rule i k q t (evidence_in right.kind (drop answer_head a))) (sym read.reads.text_is) (subst (λ e. rules.Read rule i k q read.text e) (sym read.reads.shown) kept))

    holds : (rule : Rule) → Holds i k q n a rule
    holds room = right.roomy
    holds size = (read.reads.long, read.reads.total_is)
    holds form = (right.kind, is_form)
    holds tag = of tag read.keeps.tagged
    holds origin = of origin read.keeps.origin_is
    holds nonce = of nonce read.keeps.fresh
    holds numbers = of numbers read.keeps.shows
    holds digest = of digest read.keeps.digested
