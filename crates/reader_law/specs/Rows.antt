-- What an answer has to be for a reader to accept it: the row of its kind.
use Rattle.std.specs.Prelude.{◌≡◌, ℕ, ◌+◌, ◌*◌, ◌<◌, ◌≤◌, true, List, [], ◌∷◌, length}
use Rattle.digest.specs.Sha256.{sha256}
use Rattle.digest.specs.Hmac.{hmac}
use Rattle.statement.specs.declared.types.Statement.{Statement}
use Rattle.statement.specs.declared.types.SignedStatement.{SignedStatement}
use Rattle.statement.specs.Layout.{encoded, SizedSigned}
use Rattle.notice.specs.declared.answer.Kind.{Kind}
use Rattle.notice.specs.declared.answer.Kind.TheVariants.{Found, Skipped, Forgotten, NotYet, End, EndOfEmpty}
use Rattle.notice.specs.Limits.{previous_size, text_limit}
use Rattle.notice.specs.Answer.{answer_bytes, head_length}
use Rattle.notice.specs.Input.{digest_input}
use Rattle.reader.specs.declared.types.Question.{Question}
use Rattle.reader.specs.declared.types.Verdict.{Verdict}
use Rattle.reader.specs.Verdict.{working_size, answers_to, position_of, verdict_with}

-- The dongle of that identity and key signed the statement, and it is of that counter.
pub record SignedBy (identity key : List ℕ) (counter : ℕ) (s : SignedStatement) : Type 0 where
  pub sized : SizedSigned s
  pub signed : s.tag ≡ hmac key (encoded s.statement)
  pub of_dongle : s.statement.identity ≡ identity
  pub of_counter : s.statement.counter ≡ counter

-- the counter rose
abbrev pub Advance : Statement → Type 0
Advance s = s.old < s.new

-- the counter stands at its new number
abbrev pub Status : Statement → Type 0
Status s = s.old ≡ s.new

-- a status made for the challenge of that nonce
abbrev pub Nonce : List ℕ → Statement → Type 0
Nonce nonce s = s.matter ≡ nonce

-- the digest rule
abbrev pub DigestRule : ℕ → Statement → List ℕ → List ℕ → Type 0
DigestRule queue s previous text = s.matter ≡ sha256 (digest_input queue s.old s.new previous text)

-- the two counters of a queue
abbrev pub low : ℕ → ℕ
low queue = 2 * queue

abbrev pub high : ℕ → ℕ
high queue = 2 * queue + 1

-- Found: an advance to the position asked for, with its text.
pub record FoundRow (identity key : List ℕ) (question : Question) (answer : List ℕ) (v : Verdict) : Type 0 where
  pub advance : SignedStatement
  pub previous : List ℕ
  pub text : List ℕ
  pub layout : answer ≡ answer_bytes Found (advance ∷ []) previous text
  pub previous_bytes : length previous ≡ previous_size
  pub short : length text ≤ text_limit
  pub signed : SignedBy identity key (high question.queue) advance
  pub advances : Advance advance.statement
  pub reaches : advance.statement.new ≡ position_of question.asked
  pub digest : DigestRule question.queue advance.statement previous text
  pub says : v ≡ verdict_with Found (position_of question.asked) 0 (head_length Found) (length text)

-- Skipped: an advance that passes over the position.
pub record SkippedRow (identity key : List ℕ) (question : Question) (answer : List ℕ) (v : Verdict) : Type 0 where
  pub advance : SignedStatement
  pub layout : answer ≡ answer_bytes Skipped (advance ∷ []) [] []
  pub signed : SignedBy identity key (high question.queue) advance
  pub advances : Advance advance.statement
  pub from_below : advance.statement.old < position_of question.asked
  pub to_above : position_of question.asked < advance.statement.new
  pub says : v ≡ verdict_with Skipped (position_of question.asked) 0 0 0

-- Forgotten: a status of the low counter, above the position.
pub record ForgottenRow (identity key : List ℕ) (question : Question) (answer : List ℕ) (v : Verdict) : Type 0 where
  pub status : SignedStatement
  pub layout : answer ≡ answer_bytes Forgotten (status ∷ []) [] []
  pub signed : SignedBy identity key (low question.queue) status
  pub nonce : Nonce question.nonce status.statement
  pub stands : Status status.statement
  pub above : position_of question.asked < status.statement.new
  pub says : v ≡ verdict_with Forgotten (position_of question.asked) 0 0 0

-- Not yet: a status of the high counter, below the position.
pub record NotYetRow (identity key : List ℕ) (question : Question) (answer : List ℕ) (v : Verdict) : Type 0 where
  pub status : SignedStatement
  pub layout : answer ≡ answer_bytes NotYet (status ∷ []) [] []
  pub signed : SignedBy identity key (high question.queue) status
  pub nonce : Nonce question.nonce status.statement
  pub stands : Status status.statement
  pub below : status.statement.new < position_of question.asked
  pub says : v ≡ verdict_with NotYet (position_of question.asked) status.statement.new 0 0

-- End: a status of the high counter, at 1 or more, and the advance that led there, with its text.
pub record EndRow (identity key : List ℕ) (question : Question) (answer : List ℕ) (v : Verdict) : Type 0 where
  pub status : SignedStatement
  pub advance : SignedStatement
  pub previous : List ℕ
  pub text : List ℕ
  pub layout : answer ≡ answer_bytes End (status ∷ advance ∷ []) previous text
  pub previous_bytes : length previous ≡ previous_size
  pub short : length text ≤ text_limit
  pub signed : SignedBy identity key (high question.queue) status
  pub also_signed : SignedBy identity key (high question.queue) advance
  pub nonce : Nonce question.nonce status.statement
  pub stands : Status status.statement
  pub written : 1 ≤ status.statement.new
  pub advances : Advance advance.statement
  pub reaches : advance.statement.new ≡ status.statement.new
  pub digest : DigestRule question.queue advance.statement previous text
  pub says : v ≡ verdict_with End status.statement.new status.statement.new (head_length End) (length text)

-- End of empty: a status of the high counter, at 0.
pub record EndOfEmptyRow (identity key : List ℕ) (question : Question) (answer : List ℕ) (v : Verdict) : Type 0 where
  pub status : SignedStatement
  pub layout : answer ≡ answer_bytes EndOfEmpty (status ∷ []) [] []
  pub signed : SignedBy identity key (high question.queue) status
  pub nonce : Nonce question.nonce status.statement
  pub stands : Status status.statement
  pub empty : status.statement.new ≡ 0
  pub says : v ≡ verdict_with EndOfEmpty 0 0 0 0

abbrev pub Row : Kind → List ℕ → List ℕ → Question → List ℕ → Verdict → Type 0
Row Found = FoundRow
Row Skipped = SkippedRow
Row Forgotten = ForgottenRow
Row NotYet = NotYetRow
Row End = EndRow
Row EndOfEmpty = EndOfEmptyRow

-- An answer that a reader with a working area of that room accepts, and what the verdict says: its kind answers the question,
-- and it keeps every rule of its kind's row.
pub record Right (identity key : List ℕ) (question : Question) (room : ℕ) (answer : List ℕ) (v : Verdict) : Type 0 where
  pub roomy : working_size ≤ room
  pub kind : Kind
  pub answers : answers_to question.asked kind ≡ true
  pub row : Row kind identity key question answer v
