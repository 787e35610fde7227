-- The verdict of a reader on an answer: the rules in the order in which they are tried, and what an accepted answer says.
use Rattle.std.specs.Prelude.{ℕ, Bool, true, false, not, if◌then◌else◌, ◌&&◌, List, length, drop, Ok, Result, ◌==◌, nat_le, slice_index}
use Rattle.std.specs.Option.{ok_or}
use Rattle.digest.specs.Sizes.{block_size}
use Rattle.notice.specs.declared.answer.Kind.{Kind}
use Rattle.notice.specs.declared.answer.Kind.TheVariants as kind
use Rattle.notice.specs.Limits.{text_limit, answer_head}
use Rattle.notice.specs.Answer.{kind_of, statements_of, has_text, answer_length, head_length}
use Rattle.reader.specs.declared.types.Asked.{Asked}
use Rattle.reader.specs.declared.types.Asked.TheVariants as asked
use Rattle.reader.specs.declared.types.Question.{Question}
use Rattle.reader.specs.declared.types.Verdict.{Verdict}
use Rattle.reader.specs.declared.fault.ReaderFault.{ReaderFault}
use Rattle.reader.specs.declared.fault.ReaderFault.TheVariants.{ShortWorkingArea, WrongLength, WrongForm}
use Rattle.reader.specs.declared.evidence.Evidence.{Evidence}
use Rattle.reader.specs.declared.evidence.Evidence.TheVariants.{Found, Skipped, Forgotten, NotYet, End, EndOfEmpty}
use Rattle.reader.specs.Evidence.{evidence_in, text_in}
use Rattle.reader.specs.Rules.{◌>>=◌, demanded, tags, origins, nonces, numbers, digests}

abbrev pub is_of_end : Kind → Bool
is_of_end kind.Found = false
is_of_end kind.Skipped = false
is_of_end kind.Forgotten = false
is_of_end kind.NotYet = false
is_of_end kind.End = true
is_of_end kind.EndOfEmpty = true

-- the kinds of an end answer for the end, all else for a position
abbrev pub answers_to : Asked → Kind → Bool
answers_to (asked.Position p) kind = not (is_of_end kind)
answers_to asked.End kind = is_of_end kind

-- a text has at most 200 bytes, and none where none belongs
abbrev pub right_size : Kind → ℕ → Bool
right_size kind size = if has_text kind then nat_le size text_limit else size == 0

abbrev pub right_form : Asked → Kind → ℕ → ℕ → Bool
right_form asked kind count size = answers_to asked kind && (count == statements_of kind && right_size kind size)

-- the kind of an answer of a length that begins with these three bytes
abbrev pub laid_out : Asked → ℕ → ℕ → ℕ → ℕ → Result Kind ReaderFault
laid_out asked number count size n = do
  _ ← demanded (n == answer_length number count size) WrongLength
  kind ← ok_or (kind_of number) WrongForm
  _ ← demanded (right_form asked kind count size) WrongForm
  Ok kind

abbrev pub position_of : Asked → ℕ
position_of (asked.Position p) = p
position_of asked.End = 0

abbrev pub verdict_with : Kind → ℕ → ℕ → ℕ → ℕ → Verdict
verdict_with kind position high place size =
    record { kind = kind; position = position; high = high; text_place = place; text_length = size }

-- the position, of an end the number that the status shows; the high mark where a status of the high counter shows it;
-- the text's place and length
abbrev pub accepted : ℕ → ℕ → Evidence → Verdict
accepted p size (Found advance previous) = verdict_with kind.Found p 0 (head_length kind.Found) size
accepted p size (Skipped advance) = verdict_with kind.Skipped p 0 0 0
accepted p size (Forgotten status) = verdict_with kind.Forgotten p 0 0 0
accepted p size (NotYet status) = verdict_with kind.NotYet p status.statement.new 0 0
accepted p size (End status advance previous) =
    verdict_with kind.End status.statement.new status.statement.new (head_length kind.End) size
accepted p size (EndOfEmpty status) = verdict_with kind.EndOfEmpty 0 status.statement.new 0 0

-- each rule over all statements before the next
abbrev pub decided : List ℕ → List ℕ → Question → List ℕ → Evidence → Result Verdict ReaderFault
decided identity key question text evidence = do
  _ ← tags key evidence
  _ ← origins identity question.queue evidence
  _ ← nonces question.nonce evidence
  _ ← numbers (position_of question.asked) evidence
  _ ← digests question.queue text evidence
  Ok (accepted (position_of question.asked) (length text) evidence)

-- the rest of an answer, once its first three bytes gave its kind
abbrev pub decided_by_kind : List ℕ → List ℕ → Question → List ℕ → Kind → Result Verdict ReaderFault
decided_by_kind identity key question rest kind = decided identity key question (text_in kind rest) (evidence_in kind rest)

-- the first three bytes give the kind, or what is wrong with them
abbrev pub kind_in : Asked → List ℕ → Result Kind ReaderFault
kind_in asked answer = do
  _ ← demanded (nat_le answer_head (length answer)) WrongLength
  laid_out asked (slice_index answer 0) (slice_index answer 1) (slice_index answer 2) (length answer)

-- the verdict once there is room to make tags
abbrev pub decided_on : List ℕ → List ℕ → Question → List ℕ → Result Verdict ReaderFault
decided_on identity key question answer = do
  kind ← kind_in question.asked answer
  decided_by_kind identity key question (drop answer_head answer) kind

-- tags are made in the first bytes of a working area
abbrev pub working_size : ℕ
working_size = block_size

-- the verdict of a reader with a working area of that room
unfoldable pub verdict : List ℕ → List ℕ → Question → ℕ → List ℕ → Result Verdict ReaderFault
verdict identity key question room answer = do
  _ ← demanded (nat_le working_size room) ShortWorkingArea
  decided_on identity key question answer
