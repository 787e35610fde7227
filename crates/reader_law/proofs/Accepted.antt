-- An answer of which every rule holds keeps every rule of its kind's row.
use Rattle.std.proofs.Common.{◌≡◌, ℕ, ◌+◌, ◌*◌, ◌≤◌, true, false, List, [], ◌∷◌, ◌++◌, length, get_or, drop, sym, refl, ap, ◌∙◌, arith}
use Rattle.std.proofs.lemmas.List.{length-drop, drop_all}
use Rattle.std.proofs.lemmas.Bool.{eqb-true, leb-true}
use Rattle.digest.specs.Hmac.{hmac}
use Rattle.statement.specs.declared.types.SignedStatement.{SignedStatement}
use Rattle.statement.specs.Layout.{encoded, SizedSigned, signed_statement_size}
use Rattle.notice.specs.declared.answer.Kind.{Kind}
use Rattle.notice.specs.declared.answer.Kind.TheVariants.{Found, Skipped, Forgotten, NotYet, End, EndOfEmpty}
use Rattle.notice.specs.Limits.{answer_head, previous_size, text_limit}
use Rattle.notice.specs.Answer.{number_of_kind, statements_of, has_text, answer_bytes, answer_length, head_length}
use Rattle.reader.specs.declared.types.Question.{Question}
use Rattle.reader.specs.declared.types.Verdict.{Verdict}
use Rattle.reader.specs.Evidence.{signed_in, previous_in, evidence_in, text_in}
use Rattle.reader.specs.Verdict.{right_size, verdict_with}
use Rattle.reader_law.specs.Rows.{SignedBy, Row}
use Rattle.reader_law.specs.Refusals.{size, tag, origin, nonce, numbers, digest, Form}
use Rattle.reader_law.proofs.Outcomes.{Accepts}
use Rattle.reader_law.proofs.Rightly.{Keeps, bare_kind}
use Rattle.reader_law.proofs.Parts.{Below, below_drop, headed, split_at, length_part, one_written, two_written, read_sized, tail_of, answer_of_one, answer_of_two}

-- how long an answer of a kind is
record Whole (kind : Kind) (n total : ℕ) : Type 0 where
  total_is : total ≡ head_length kind + n
  short : n ≤ text_limit

whole :
    (kind : Kind) (n total : ℕ) → total ≡ answer_length (number_of_kind kind) (statements_of kind) n →
    right_size kind n ≡ true → Whole kind n total
whole Found n total e h = record { total_is = omega arith; short = leb-true n text_limit h }
whole Skipped n total e h = let z = eqb-true n 0 h in record { total_is = omega arith; short = omega arith }
whole Forgotten n total e h = let z = eqb-true n 0 h in record { total_is = omega arith; short = omega arith }
whole NotYet n total e h = let z = eqb-true n 0 h in record { total_is = omega arith; short = omega arith }
whole End n total e h = record { total_is = omega arith; short = leb-true n text_limit h }
whole EndOfEmpty n total e h = let z = eqb-true n 0 h in record { total_is = omega arith; short = omega arith }

-- an answer of a kind is the layout of the statements that are read from it
one_layout :
    (kind : Kind) (answer previous text : List ℕ) → Below answer → answer_head + signed_statement_size ≤ length answer →
    get_or answer 0 0 ≡ number_of_kind kind → get_or answer 1 0 ≡ 1 → get_or answer 2 0 ≡ length text →
    drop signed_statement_size (drop answer_head answer) ≡ tail_of kind previous text →
    answer ≡ answer_bytes kind (signed_in 1 0 (drop answer_head answer) ∷ []) previous text
one_layout kind answer previous text below long n c z tail =
    let rest = drop answer_head answer in
    let l = length-drop answer_head answer in
    let h = headed answer (omega arith) in
    let w = one_written rest (below_drop answer_head answer below) (omega arith) in
    let a = answer_of_one kind (signed_in 1 0 rest) previous text in
    cc

end_layout :
    (answer previous text : List ℕ) → Below answer → answer_head + signed_statement_size * 2 ≤ length answer →
    get_or answer 0 0 ≡ 5 → get_or answer 1 0 ≡ 2 → get_or answer 2 0 ≡ length text →
    drop (signed_statement_size * 2) (drop answer_head answer) ≡ previous ++ text →
    answer ≡ answer_bytes End (signed_in 2 0 (drop answer_head answer) ∷ signed_in 2 1 (drop answer_head answer) ∷ []) previous text
end_layout answer previous text below long n c z tail =
    let rest = drop answer_head answer in
    let l = length-drop answer_head answer in
    let h = headed answer (omega arith) in
    let w = two_written rest (below_drop answer_head answer below) (omega arith) in
    let a = answer_of_two End (signed_in 2 0 rest) (signed_in 2 1 rest) previous text in
    cc

signed_by :
    (identity key : List ℕ) (counter : ℕ) (s : SignedStatement) → SizedSigned s → s.tag ≡ hmac key (encoded s.statement) →
    (s.statement.identity ≡ identity) × (s.statement.counter ≡ counter) → SignedBy identity key counter s
signed_by identity key counter s sized tagged from =
    record { sized = sized; signed = tagged; of_dongle = from.0; of_counter = from.1 }

-- the parts of a row that a kind with one statement has in any case
record One (kind : Kind) (identity key : List ℕ) (counter : ℕ) (answer : List ℕ) : Type 0 where
  layout : answer ≡ answer_bytes kind (signed_in 1 0 (drop answer_head answer) ∷ []) [] []
  signed : SignedBy identity key counter (signed_in 1 0 (drop answer_head answer))

one :
    (kind : Kind) (identity key : List ℕ) (counter : ℕ) (answer : List ℕ) → Below answer → has_text kind ≡ false →
    get_or answer 0 0 ≡ number_of_kind kind → get_or answer 1 0 ≡ statements_of kind → right_size kind (get_or answer 2 0) ≡ true →
    length answer ≡ head_length kind + get_or answer 2 0 →
    (signed_in 1 0 (drop answer_head answer)).tag ≡ hmac key (encoded (signed_in 1 0 (drop answer_head answer)).statement) →
    ((signed_in 1 0 (drop answer_head answer)).statement.identity ≡ identity) × ((signed_in 1 0 (drop answer_head answer)).statement.counter ≡ counter) →
    One kind identity key counter answer
one kind identity key counter answer below no_text n c fits total tagged from =
    let k = bare_kind kind no_text in
    let head = k.head_is in
    let rest = drop answer_head answer in
    let l = length-drop answer_head answer in
    let zero : get_or answer 2 0 ≡ 0 = eqb-true (get_or answer 2 0) 0 (sym (k.empty (get_or answer 2 0)) ∙ fits) in
    record {
      layout = one_layout kind answer [] [] below (omega arith) n (c ∙ k.single) zero (drop_all signed_statement_size rest (omega arith) ∙ sym k.ends);
      signed = signed_by identity key counter (signed_in 1 0 rest) (read_sized 1 0 rest (omega arith) (omega arith)) tagged from;
    }

row_of :
    (kind : Kind) (identity key : List ℕ) (question : Question) (answer : List ℕ) (v : Verdict) → Below answer →
    Form question.asked answer kind → Whole kind (get_or answer 2 0) (length answer) →
    Keeps identity key question (text_in kind (drop answer_head answer)) (evidence_in kind (drop answer_head answer)) v →
    Row kind identity key question answer v
row_of Found identity key question answer v below f w k =
    let rest = drop answer_head answer in
    let l = length-drop answer_head answer in
    let m = length-drop (signed_statement_size + previous_size) rest in
    let e = w.total_is in
    let p = length_part signed_statement_size previous_size rest (omega arith) in
    record {
      advance = signed_in 1 0 rest;
      previous = previous_in 1 rest;
      text = text_in Found rest;
      layout = one_layout Found answer (previous_in 1 rest) (text_in Found rest) below (omega arith) f.number_is f.count_is (omega arith) (split_at signed_statement_size previous_size rest);
      previous_bytes = p;
      short = omega (arith, w.short);
      signed = signed_by identity key _ (signed_in 1 0 rest) (read_sized 1 0 rest (omega arith) (omega arith)) k.tagged.0 k.origin_is.0;
      advances = k.shows.0;
      reaches = k.shows.1;
      digest = k.digested;
      says = sym k.says;
    }
row_of Skipped identity key question answer v below f w k =
    let o = one Skipped identity key _ answer below refl f.number_is f.count_is f.size_is w.total_is k.tagged.0 k.origin_is.0 in
    record {
      advance = signed_in 1 0 (drop answer_head answer);
      layout = o.layout;
      signed = o.signed;
      advances = k.shows.0;
      from_below = k.shows.1.0;
      to_above = k.shows.1.1;
      says = sym k.says;
    }
row_of Forgotten identity key question answer v below f w k =
    let o = one Forgotten identity key _ answer below refl f.number_is f.count_is f.size_is w.total_is k.tagged.0 k.origin_is.0 in
    record {
      status = signed_in 1 0 (drop answer_head answer);
      layout = o.layout;
      signed = o.signed;
      nonce = k.fresh;
      stands = k.shows.0;
      above = k.shows.1;
      says = sym k.says;
    }
row_of NotYet identity key question answer v below f w k =
    let o = one NotYet identity key _ answer below refl f.number_is f.count_is f.size_is w.total_is k.tagged.0 k.origin_is.0 in
    record {
      status = signed_in 1 0 (drop answer_head answer);
      layout = o.layout;
      signed = o.signed;
      nonce = k.fresh;
      stands = k.shows.0;
      below = k.shows.1;
      says = sym k.says;
    }
row_of End identity key question answer v below f w k =
    let rest = drop answer_head answer in
    let l = length-drop answer_head answer in
    let m = length-drop (signed_statement_size * 2 + previous_size) rest in
    let e = w.total_is in
    record {
      status = signed_in 2 0 rest;
      advance = signed_in 2 1 rest;
      previous = previous_in 2 rest;
      text = text_in End rest;
      layout = end_layout answer (previous_in 2 rest) (text_in End rest) below (omega arith) f.number_is f.count_is (omega arith) (split_at (signed_statement_size * 2) previous_size rest);
      previous_bytes = length_part (signed_statement_size * 2) previous_size rest (omega arith);
      short = omega (arith, w.short);
      signed = signed_by identity key _ (signed_in 2 0 rest) (read_sized 2 0 rest (omega arith) (omega arith)) k.tagged.0 k.origin_is.0;
      also_signed = signed_by identity key _ (signed_in 2 1 rest) (read_sized 2 1 rest (omega arith) (omega arith)) k.tagged.1 k.origin_is.1;
      nonce = k.fresh;
      stands = k.shows.0.0;
      written = k.shows.0.1;
      advances = k.shows.1.0;
      reaches = k.shows.1.1;
      digest = k.digested;
      says = sym k.says;
    }
row_of EndOfEmpty identity key question answer v below f w k =
    let o = one EndOfEmpty identity key _ answer below refl f.number_is f.count_is f.size_is w.total_is k.tagged.0 k.origin_is.0 in
    record {
      status = signed_in 1 0 (drop answer_head answer);
      layout = o.layout;
      signed = o.signed;
      nonce = k.fresh;
      stands = k.shows.0;
      empty = k.shows.1;
      says = sym k.says ∙ ap (λ high. verdict_with EndOfEmpty 0 high 0 0) k.shows.1;
    }

pub row_accepted :
    (i k : List ℕ) (q : Question) (n : ℕ) (a : List ℕ) (v : Verdict) → Below a → (c : Accepts i k q n a v) → Row c.kind i k q a v
row_accepted i k q n a v below c =
    let f = c.is_form in
    let total = (c.holds size).1 ∙ ap (λ x. answer_length x (get_or a 1 0) (get_or a 2 0)) f.number_is
    ∙ ap (λ x. answer_length (number_of_kind c.kind) x (get_or a 2 0)) f.count_is in
    row_of c.kind i k q a v below f (whole c.kind (get_or a 2 0) (length a) total f.size_is)
    (record {
      tagged = c.holds tag c.kind f;
      origin_is = c.holds origin c.kind f;
      fresh = c.holds nonce c.kind f;
      shows = c.holds numbers c.kind f;
      digested = c.holds digest c.kind f;
      says = c.says;
    })
