-- What an answer shows: its signed statements by their roles, and the previous digest, read from the bytes after the
-- first three.
use Rattle.std.specs.Prelude.{ℕ, ◌+◌, ◌-◌, ◌*◌, List, take, drop, Some, None, Option}
use Rattle.digest.specs.Sizes.{digest_size}
use Rattle.statement.specs.declared.types.SignedStatement.{SignedStatement}
use Rattle.statement.specs.Layout.{statement_size, signed_statement_size, decoded}
use Rattle.notice.specs.declared.answer.Kind.{Kind}
use Rattle.notice.specs.declared.answer.Kind.TheVariants as kind
use Rattle.notice.specs.Limits.{previous_size, answer_head}
use Rattle.notice.specs.Answer.{head_length}
use Rattle.reader.specs.declared.evidence.Evidence.{Evidence}
use Rattle.reader.specs.declared.evidence.Evidence.TheVariants.{Found, Skipped, Forgotten, NotYet, End, EndOfEmpty}

-- the statement of that place among so many, with its tag: the statements come first, then their tags in the same order
abbrev pub signed_in : ℕ → ℕ → List ℕ → SignedStatement
signed_in count place bytes =
    record {
      statement = decoded (take statement_size (drop (statement_size * place) bytes));
      tag = take digest_size (drop (statement_size * count + digest_size * place) bytes);
    }

-- the previous digest, behind so many statements with their tags
abbrev pub previous_in : ℕ → List ℕ → List ℕ
previous_in count bytes = take previous_size (drop (signed_statement_size * count) bytes)

-- one statement, or a status and an advance; and the previous digest where there is a text
abbrev pub evidence_in : Kind → List ℕ → Evidence
evidence_in kind.Found bytes = Found (signed_in 1 0 bytes) (previous_in 1 bytes)
evidence_in kind.Skipped bytes = Skipped (signed_in 1 0 bytes)
evidence_in kind.Forgotten bytes = Forgotten (signed_in 1 0 bytes)
evidence_in kind.NotYet bytes = NotYet (signed_in 1 0 bytes)
evidence_in kind.End bytes = End (signed_in 2 0 bytes) (signed_in 2 1 bytes) (previous_in 2 bytes)
evidence_in kind.EndOfEmpty bytes = EndOfEmpty (signed_in 1 0 bytes)

-- the text is what is left, nothing where the kind has none
abbrev pub text_in : Kind → List ℕ → List ℕ
text_in kind bytes = drop (head_length kind - answer_head) bytes

abbrev pub first_of : Evidence → SignedStatement
first_of (Found advance previous) = advance
first_of (Skipped advance) = advance
first_of (Forgotten status) = status
first_of (NotYet status) = status
first_of (End status advance previous) = status
first_of (EndOfEmpty status) = status

abbrev pub second_of : Evidence → Option SignedStatement
second_of (Found advance previous) = None
second_of (Skipped advance) = None
second_of (Forgotten status) = None
second_of (NotYet status) = None
second_of (End status advance previous) = Some advance
second_of (EndOfEmpty status) = None

abbrev pub status_of : Evidence → Option SignedStatement
status_of (Found advance previous) = None
status_of (Skipped advance) = None
status_of (Forgotten status) = Some status
status_of (NotYet status) = Some status
status_of (End status advance previous) = Some status
status_of (EndOfEmpty status) = Some status
