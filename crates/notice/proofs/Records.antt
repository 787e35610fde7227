-- What a written record tells.
use Rattle.std.proofs.Common.{◌≡◌, ℕ, ◌+◌, ◌%◌, ◌<◌, ◌≤◌, true, eqb, leb, List, ◌∷◌, ◌++◌, length, get_or, take, drop, sym, ap, ◌∙◌, arith}
use Rattle.std.proofs.lemmas.List.{take_at, drop_at, drop-drop, get_or-drop, length-append}
use Rattle.std.proofs.lemmas.Bool.{and_from, and_parts, eq-eqb, eqb-true, le-leb, leb-true, lt-ltb}
use Rattle.statement.specs.declared.types.SignedStatement.{SignedStatement}
use Rattle.statement.specs.Layout.{encoded_signed, decoded_signed, SizedSigned, signed_statement_size}
use Rattle.statement.proofs.Layouts.{length-encoded_signed, decoded-encoded_signed}
use Rattle.notice.specs.Limits.{previous_size, text_limit, record_head, record_limit}
use Rattle.notice.specs.Record.{recorded, signed_of, counter_of, old_of, new_of, previous_of, size_of, text_of, is_record, Tells}

pub length-recorded :
    (s : SignedStatement) (digest words : List ℕ) → SizedSigned s → length digest ≡ previous_size →
    length (recorded s digest words) ≡ record_head + length words
unfolding recorded
length-recorded s digest words h d =
    let n = length-encoded_signed s h in
    length-append (encoded_signed s) _ ∙ (ap (λ k. length (encoded_signed s) + k) (length-append digest _) ∙ omega arith)

-- the parts are read again as they were written
pub recorded_tells :
    (s : SignedStatement) (digest words : List ℕ) → SizedSigned s → length digest ≡ previous_size →
    Tells s digest words (recorded s digest words)
unfolding recorded signed_of counter_of old_of new_of previous_of size_of text_of
recorded_tells s digest words h d =
    let n = length-encoded_signed s h in
    let tail : List ℕ = digest ++ (length words ∷ words) in
    let e : decoded_signed (recorded s digest words) ≡ s = decoded-encoded_signed s tail h in
    let b : drop signed_statement_size (recorded s digest words) ≡ tail = drop_at (encoded_signed s) tail 81 n in
    let k : drop 113 (recorded s digest words) ≡ length words ∷ words =
    sym (drop-drop 32 81 (recorded s digest words)) ∙ (ap (drop 32) b ∙ drop_at digest (length words ∷ words) 32 d) in
    record {
      signed = e;
      counter = ap (λ z. z.statement.counter) e;
      old = ap (λ z. z.statement.old) e;
      new = ap (λ z. z.statement.new) e;
      previous = ap (take 32) b ∙ take_at digest (length words ∷ words) 32 d;
      size = sym (get_or-drop 113 (recorded s digest words) 0 0) ∙ ap (λ z. get_or z 0 0) k;
      text = sym (drop-drop 1 113 (recorded s digest words)) ∙ ap (drop 1) k;
    }

-- a record of the high counter of a queue may be kept
pub recorded-is_record :
    (s : SignedStatement) (digest words : List ℕ) → SizedSigned s → length digest ≡ previous_size → length words ≤ text_limit →
    s.statement.counter % 2 ≡ 1 → s.statement.counter ≤ 15 → s.statement.old < s.statement.new →
    is_record (recorded s digest words) ≡ true
unfolding is_record
recorded-is_record s digest words h d short odd small rises =
    let t = recorded_tells s digest words h d in
    let n = length-recorded s digest words h d in
    let r = recorded s digest words in
    and_from _ _ (eq-eqb (length r) (record_head + size_of r) (omega (arith, t.size)))
    (and_from _ _ (le-leb (size_of r) text_limit (omega (arith, t.size)))
    (and_from _ _ (eq-eqb (counter_of r % 2) 1 (ap (λ z. z % 2) t.counter ∙ odd))
    (and_from _ _ (le-leb (counter_of r) 15 (omega (arith, t.counter)))
    (lt-ltb (old_of r) (new_of r) (omega (arith, t.old, t.new))))))

-- a record keeps within its limit
pub record_short : (r : List ℕ) → is_record r ≡ true → length r ≤ record_limit
unfolding is_record
record_short r h =
    let a = and_parts (eqb (length r) (record_head + size_of r)) _ h in
    let b = and_parts (leb (size_of r) text_limit) _ a.1 in
    omega (arith, eqb-true (length r) (record_head + size_of r) a.0, leb-true (size_of r) text_limit b.0)
