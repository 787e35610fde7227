-- The rules of an answer in the order in which they are tried. A refusal has the number of the first that fails.
use Rattle.std.specs.Prelude.{◌≡◌, ℕ, ◌<◌, ◌≤◌, true, List, length, drop, Some, None, Ok, Err, Option, Result, slice_index}
use Rattle.digest.specs.Hmac.{hmac}
use Rattle.statement.specs.declared.types.SignedStatement.{SignedStatement}
use Rattle.statement.specs.Layout.{encoded}
use Rattle.notice.specs.declared.answer.Kind.{Kind}
use Rattle.notice.specs.Limits.{answer_head}
use Rattle.notice.specs.Answer.{number_of_kind, statements_of, answer_length}
use Rattle.reader.specs.declared.types.Asked.{Asked}
use Rattle.reader.specs.declared.types.Question.{Question}
use Rattle.reader.specs.declared.types.Verdict.{Verdict}
use Rattle.reader.specs.declared.fault.ReaderFault.{ReaderFault}
use Rattle.reader.specs.declared.evidence.Evidence.{Evidence}
use Rattle.reader.specs.declared.evidence.Evidence.TheVariants.{Found, Skipped, Forgotten, NotYet, End, EndOfEmpty}
use Rattle.reader.specs.Faults.{number_of}
use Rattle.reader.specs.Evidence.{evidence_in, text_in, first_of, second_of}
use Rattle.reader.specs.Rules.{counter_for}
use Rattle.reader.specs.Verdict.{working_size, answers_to, right_size, position_of}
use Rattle.reader_law.specs.Rows.{Advance, Status, Nonce, DigestRule}

pub data Rule : Type 0 where
  room : Rule
  size : Rule
  form : Rule
  tag : Rule
  origin : Rule
  nonce : Rule
  numbers : Rule
  digest : Rule

-- the order in which the rules are tried
abbrev pub place : Rule → ℕ
place room = 0
place size = 1
place form = 2
place tag = 3
place origin = 4
place nonce = 5
place numbers = 6
place digest = 7

abbrev pub refusal : Rule → ℕ
refusal room = 5
refusal size = 16
refusal form = 17
refusal tag = 18
refusal origin = 19
refusal nonce = 20
refusal numbers = 21
refusal digest = 22

-- the first three bytes are those of an answer of the kind to what was asked
pub record Form (asked : Asked) (answer : List ℕ) (kind : Kind) : Type 0 where
  pub number_is : slice_index answer 0 ≡ number_of_kind kind
  pub answers : answers_to asked kind ≡ true
  pub count_is : slice_index answer 1 ≡ statements_of kind
  pub size_is : right_size kind (slice_index answer 2) ≡ true

abbrev pub AlsoSecond : (SignedStatement → Type 0) → Option SignedStatement → Type 0
AlsoSecond P None = Unit {0}
AlsoSecond P (Some s) = P s

-- of every statement
abbrev pub Every : (SignedStatement → Type 0) → Evidence → Type 0
Every P e = P (first_of e) × AlsoSecond P (second_of e)

abbrev pub Fresh : List ℕ → Evidence → Type 0
Fresh n (Found advance previous) = Unit {0}
Fresh n (Skipped advance) = Unit {0}
Fresh n (Forgotten status) = Nonce n status.statement
Fresh n (NotYet status) = Nonce n status.statement
Fresh n (End status advance previous) = Nonce n status.statement
Fresh n (EndOfEmpty status) = Nonce n status.statement

-- what the numbers of each kind have to show of the position
abbrev pub Shows : ℕ → Evidence → Type 0
Shows p (Found advance previous) = Advance advance.statement × (advance.statement.new ≡ p)
Shows p (Skipped advance) = Advance advance.statement × ((advance.statement.old < p) × (p < advance.statement.new))
Shows p (Forgotten status) = Status status.statement × (p < status.statement.new)
Shows p (NotYet status) = Status status.statement × (status.statement.new < p)
Shows p (End status advance previous) =
    (Status status.statement × (0 < status.statement.new))
    × (Advance advance.statement × (advance.statement.new ≡ status.statement.new))
Shows p (EndOfEmpty status) = Status status.statement × (status.statement.new ≡ 0)

abbrev pub Digested : ℕ → List ℕ → Evidence → Type 0
Digested q text (Found advance previous) = DigestRule q advance.statement previous text
Digested q text (Skipped advance) = Unit {0}
Digested q text (Forgotten status) = Unit {0}
Digested q text (NotYet status) = Unit {0}
Digested q text (End status advance previous) = DigestRule q advance.statement previous text
Digested q text (EndOfEmpty status) = Unit {0}

-- what the rule says of what is read from an answer in the form of a kind
abbrev pub Read : Rule → List ℕ → List ℕ → Question → List ℕ → Evidence → Type 0
Read room identity key question text e = Unit {0}
Read size identity key question text e = Unit {0}
Read form identity key question text e = Unit {0}
Read tag identity key question text e = Every (λ s. s.tag ≡ hmac key (encoded s.statement)) e
Read origin identity key question text e =
    Every (λ s. (s.statement.identity ≡ identity) × (s.statement.counter ≡ counter_for question.queue e)) e
Read nonce identity key question text e = Fresh question.nonce e
Read numbers identity key question text e = Shows (position_of question.asked) e
Read digest identity key question text e = Digested question.queue text e

-- the rule, of an answer that is read as one of its kind
abbrev pub OfKind : Rule → List ℕ → List ℕ → Question → List ℕ → Type 0
OfKind rule identity key question answer =
    (kind : Kind) → Form question.asked answer kind →
    Read rule identity key question (text_in kind (drop answer_head answer)) (evidence_in kind (drop answer_head answer))

abbrev pub Holds : List ℕ → List ℕ → Question → ℕ → List ℕ → Rule → Type 0
Holds identity key question n answer room = working_size ≤ n
Holds identity key question n answer size =
    (answer_head ≤ length answer) × (length answer ≡ answer_length (slice_index answer 0) (slice_index answer 1) (slice_index answer 2))
Holds identity key question n answer form = (kind : Kind) × Form question.asked answer kind
Holds identity key question n answer tag = OfKind tag identity key question answer
Holds identity key question n answer origin = OfKind origin identity key question answer
Holds identity key question n answer nonce = OfKind nonce identity key question answer
Holds identity key question n answer numbers = OfKind numbers identity key question answer
Holds identity key question n answer digest = OfKind digest identity key question answer

-- the rule fails, and every rule before it holds
pub record FirstFailing (identity key : List ℕ) (question : Question) (n : ℕ) (answer : List ℕ) (rule : Rule) : Type 0 where
  pub before : (other : Rule) → place other < place rule → Holds identity key question n answer other
  pub fails : Holds identity key question n answer rule → ⊥

-- the number of a refusal, none where there is none
abbrev pub refusal_number : Result Verdict ReaderFault → Option ℕ
refusal_number (Ok v) = None
refusal_number (Err fault) = Some (number_of fault)
