-- The bytes of an answer, taken apart and put together.
use Rattle.std.proofs.Common.{◌≡◌, ℕ, ◌+◌, ◌*◌, ◌<◌, ◌≤◌, if◌then◌else◌, List, [], ◌∷◌, ◌++◌, length, get_or, take, drop, refl, sym, ap, ◌∙◌, ⊎_elim, append_assoc, arith}
use Rattle.std.proofs.lemmas.List.{append-nil, take-append-drop, take_at, drop_at, drop-drop, take_all, length-append, length-take, length-take-le, length-drop, get_or-take, get_or-drop, get_or_past}
use Rattle.std.proofs.lemmas.Bool.{cases_lt}
use Rattle.digest.specs.Sizes.{digest_size}
use Rattle.statement.specs.declared.types.Statement.{Statement}
use Rattle.statement.specs.declared.types.SignedStatement.{SignedStatement}
use Rattle.statement.specs.Layout.{statement_size, encoded, decoded, SizedSigned, signed_statement_size}
use Rattle.statement.proofs.Layouts.{length-encoded, decoded-encoded, encoded-decoded}
use Rattle.notice.specs.declared.answer.Kind.{Kind}
use Rattle.notice.specs.Limits.{answer_head}
use Rattle.notice.specs.Answer.{number_of_kind, has_text, answer_bytes}
use Rattle.reader.specs.Evidence.{signed_in}

-- every byte is below 256
abbrev pub Below : List ℕ → Type 0
Below bytes = (k : ℕ) → get_or bytes k 0 < 256

pub below_drop : (n : ℕ) (xs : List ℕ) → Below xs → Below (drop n xs)
below_drop n xs h k = let e = get_or-drop n xs k 0 in let b = h (n + k) in omega arith

below_take : (n : ℕ) (xs : List ℕ) → Below xs → Below (take n xs)
below_take n xs h k =
    ⊎_elim
    (λ lt. let e = get_or-take n xs k 0 lt in let b = h k in omega arith)
    (λ ge. let l = length-take n xs in let e = get_or_past (take n xs) k 0 (omega arith) in omega arith)
    (cases_lt k n)

-- a part of a list, and what follows it
pub split_at : (n m : ℕ) (xs : List ℕ) → drop n xs ≡ take m (drop n xs) ++ drop (n + m) xs
split_at n m xs = sym (take-append-drop m (drop n xs)) ∙ ap (λ z. take m (drop n xs) ++ z) (drop-drop m n xs)

pub length_part : (n m : ℕ) (xs : List ℕ) → n + m ≤ length xs → length (take m (drop n xs)) ≡ m
length_part n m xs h = length-take-le m (drop n xs) (let e = length-drop n xs in omega arith)

-- a part that stands at a place, and what stands behind it
pub record Stands (n m : ℕ) (xs part behind : List ℕ) : Type 0 where
  pub here : take m (drop n xs) ≡ part
  pub next : drop (n + m) xs ≡ behind

pub stands : (n m : ℕ) (xs part behind : List ℕ) → drop n xs ≡ part ++ behind → length part ≡ m → Stands n m xs part behind
stands n m xs part behind e h =
    record {
      here = ap (take m) e ∙ take_at part behind m h;
      next = sym (drop-drop m n xs) ∙ (ap (drop m) e ∙ drop_at part behind m h);
    }

-- the first three bytes
pub headed : (xs : List ℕ) → answer_head ≤ length xs → xs ≡ get_or xs 0 0 ∷ get_or xs 1 0 ∷ get_or xs 2 0 ∷ drop answer_head xs
headed (x ∷ y ∷ z ∷ xs) h = refl
headed _ h = absurd (omega arith)

-- a statement, read and written
written_again :
    (n : ℕ) (xs : List ℕ) → Below xs → n + statement_size ≤ length xs →
    encoded (decoded (take statement_size (drop n xs))) ≡ take statement_size (drop n xs)
written_again n xs h long =
    let l = length_part n statement_size xs long in
    encoded-decoded (take statement_size (drop n xs)) (omega arith) (below_take statement_size (drop n xs) (below_drop n xs h))
    ∙ take_all statement_size (take statement_size (drop n xs)) (omega arith)

-- what is read is of the right lengths
pub read_sized :
    (count place : ℕ) (xs : List ℕ) → place < count → signed_statement_size * count ≤ length xs → SizedSigned (signed_in count place xs)
read_sized count place xs within long =
    let part = take statement_size (drop (statement_size * place) xs) in
    let l = length_part (statement_size * place) statement_size xs (omega arith) in
    record {
      sized = record {
        identity_bytes = length-take-le 8 part (omega arith);
        matter_bytes = length_part 17 32 part (omega arith);
      };
      tag_bytes = length_part (statement_size * count + digest_size * place) digest_size xs (omega arith);
    }

-- a statement and a tag that stand at their places are read again
read_again :
    (count place : ℕ) (xs : List ℕ) (s : SignedStatement) → SizedSigned s →
    take statement_size (drop (statement_size * place) xs) ≡ encoded s.statement →
    take digest_size (drop (statement_size * count + digest_size * place) xs) ≡ s.tag → signed_in count place xs ≡ s
read_again count place xs s h e t = made (ap decoded (e ∙ sym (append-nil (encoded s.statement))) ∙ decoded-encoded s.statement [] h.sized) t
  where
    made :
        {a b : Statement} {t u : List ℕ} → a ≡ b → t ≡ u →
        ◌≡◌ {A = SignedStatement} (record { statement = a; tag = t }) (record { statement = b; tag = u })
    made a b = cc

-- the bytes behind the first three of an answer with one statement, and with two
abbrev pub bytes_of_one : SignedStatement → List ℕ → List ℕ
bytes_of_one s tail = encoded s.statement ++ (s.tag ++ tail)

abbrev pub bytes_of_two : SignedStatement → SignedStatement → List ℕ → List ℕ
bytes_of_two s t tail = encoded s.statement ++ (encoded t.statement ++ (s.tag ++ (t.tag ++ tail)))

-- what comes behind the statements and their tags
abbrev pub tail_of : Kind → List ℕ → List ℕ → List ℕ
tail_of kind previous text = if has_text kind then previous ++ text else []

pub answer_of_one :
    (kind : Kind) (s : SignedStatement) (previous text : List ℕ) →
    answer_bytes kind (s ∷ []) previous text
    ≡ number_of_kind kind ∷ 1 ∷ length text ∷ bytes_of_one s (tail_of kind previous text)
unfolding answer_bytes
answer_of_one kind s previous text = let a = append-nil (encoded s.statement) in let b = append-nil s.tag in cc

pub answer_of_two :
    (kind : Kind) (s t : SignedStatement) (previous text : List ℕ) →
    answer_bytes kind (s ∷ t ∷ []) previous text
    ≡ number_of_kind kind ∷ 2 ∷ length text ∷ bytes_of_two s t (tail_of kind previous text)
unfolding answer_bytes
answer_of_two kind s t previous text = simp (append_assoc, append-nil)

-- bytes are those of the statements that are read from them
pub one_written :
    (xs : List ℕ) → Below xs → signed_statement_size ≤ length xs → xs ≡ bytes_of_one (signed_in 1 0 xs) (drop signed_statement_size xs)
one_written xs h long =
    split_at 0 statement_size xs
    ∙ (ap (λ z. take statement_size (drop 0 xs) ++ z) (split_at statement_size digest_size xs)
    ∙ ap (λ z. z ++ (take digest_size (drop statement_size xs) ++ drop signed_statement_size xs)) (sym (written_again 0 xs h (omega arith))))

pub two_written :
    (xs : List ℕ) → Below xs → signed_statement_size * 2 ≤ length xs →
    xs ≡ bytes_of_two (signed_in 2 0 xs) (signed_in 2 1 xs) (drop (signed_statement_size * 2) xs)
two_written xs h long =
    let rest = take digest_size (drop (statement_size * 2) xs) ++ (take digest_size (drop (statement_size * 2 + digest_size) xs) ++ drop (signed_statement_size * 2) xs) in
    split_at 0 statement_size xs
    ∙ (ap (λ z. take statement_size (drop 0 xs) ++ z)
    (split_at statement_size statement_size xs ∙ (ap (λ z. take statement_size (drop statement_size xs) ++ z) (split_at (statement_size * 2) digest_size xs ∙ ap (λ z. take digest_size (drop (statement_size * 2) xs) ++ z) (split_at (statement_size * 2 + digest_size) digest_size xs))
    ∙ ap (λ z. z ++ rest) (sym (written_again statement_size xs h (omega arith)))))
    ∙ ap (λ z. z ++ (encoded (decoded (take statement_size (drop statement_size xs))) ++ rest)) (sym (written_again 0 xs h (omega arith))))

-- and statements are read from their bytes
pub record OneRead (xs tail : List ℕ) (s : SignedStatement) : Type 0 where
  pub first : signed_in 1 0 xs ≡ s
  pub behind : drop signed_statement_size xs ≡ tail
  pub total : length xs ≡ signed_statement_size + length tail

pub one_read : (xs tail : List ℕ) (s : SignedStatement) → SizedSigned s → xs ≡ bytes_of_one s tail → OneRead xs tail s
one_read xs tail s h e =
    let n = length-encoded s.statement h.sized in
    let a = stands 0 statement_size xs (encoded s.statement) (s.tag ++ tail) e n in
    let b = stands statement_size digest_size xs s.tag tail a.next h.tag_bytes in
    record { first = read_again 1 0 xs s h a.here b.here; behind = b.next; total = omega (arith, length-append {A = ℕ}, ap length e, h.tag_bytes) }

pub record TwoRead (xs tail : List ℕ) (s t : SignedStatement) : Type 0 where
  pub first : signed_in 2 0 xs ≡ s
  pub second : signed_in 2 1 xs ≡ t
  pub behind : drop (signed_statement_size * 2) xs ≡ tail
  pub total : length xs ≡ signed_statement_size * 2 + length tail

pub two_read :
    (xs tail : List ℕ) (s t : SignedStatement) → SizedSigned s → SizedSigned t → xs ≡ bytes_of_two s t tail → TwoRead xs tail s t
two_read xs tail s t h g e =
    let n = length-encoded s.statement h.sized in
    let m = length-encoded t.statement g.sized in
    let a = stands 0 statement_size xs (encoded s.statement) (encoded t.statement ++ (s.tag ++ (t.tag ++ tail))) e n in
    let b = stands statement_size statement_size xs (encoded t.statement) (s.tag ++ (t.tag ++ tail)) a.next m in
    let c = stands (statement_size * 2) digest_size xs s.tag (t.tag ++ tail) b.next h.tag_bytes in
    let d = stands (statement_size * 2 + digest_size) digest_size xs t.tag tail c.next g.tag_bytes in
    record {
      first = read_again 2 0 xs s h a.here c.here;
      second = read_again 2 1 xs t g b.here d.here;
      behind = d.next;
      total = omega (arith, length-append {A = ℕ}, ap length e, h.tag_bytes, g.tag_bytes);
    }
