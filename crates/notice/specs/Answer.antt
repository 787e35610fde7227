-- An answer: kind, number of statements and text length, one byte each; the statements; their tags in the same order.
-- The kinds with a text go on with the previous digest and the text.
use Rattle.std.specs.Prelude.{ℕ, ◌+◌, ◌*◌, Bool, true, false, List, [], ◌∷◌, ◌++◌, codes, length, Some, None, Option, ◌==◌, if◌then◌else◌, Result}
use Rattle.std.specs.List.{flat_map}
use Rattle.statement.specs.declared.types.SignedStatement.{SignedStatement}
use Rattle.statement.specs.Layout.{encoded, signed_statement_size}
use Rattle.notice.specs.declared.answer.Kind.{Kind}
use Rattle.notice.specs.declared.answer.Kind.TheVariants.{Found, Skipped, Forgotten, NotYet, End, EndOfEmpty}
use Rattle.notice.specs.declared.answer.UnknownKind.{UnknownKind}
use Rattle.std.specs.Option.{ok_or}
use Rattle.notice.specs.Limits.{previous_size, text_limit, answer_head}

abbrev pub number_of_kind : Kind → ℕ
number_of_kind Found = 1
number_of_kind Skipped = 2
number_of_kind Forgotten = 3
number_of_kind NotYet = 4
number_of_kind End = 5
number_of_kind EndOfEmpty = 6

-- the kind of a number
abbrev pub kind_of : ℕ → Option Kind
kind_of n =
    if n == 1 then Some Found
    else if n == 2 then Some Skipped
    else if n == 3 then Some Forgotten
    else if n == 4 then Some NotYet
    else if n == 5 then Some End
    else if n == 6 then Some EndOfEmpty
    else None

-- the same as a program reads it
abbrev pub kind_read : ℕ → Result Kind UnknownKind
kind_read n = ok_or (kind_of n) (record {})

-- what is printed of a number that no kind has
abbrev pub unknown_shown : List ℕ
unknown_shown = codes "unknown kind"

-- the end shows a status and an advance, every other kind one of the two
abbrev pub statements_of : Kind → ℕ
statements_of Found = 1
statements_of Skipped = 1
statements_of Forgotten = 1
statements_of NotYet = 1
statements_of End = 2
statements_of EndOfEmpty = 1

abbrev pub has_text : Kind → Bool
has_text Found = true
has_text Skipped = false
has_text Forgotten = false
has_text NotYet = false
has_text End = true
has_text EndOfEmpty = false

-- the answer of a kind with its signed statements, the previous digest and the text
unfoldable pub answer_bytes : Kind → List SignedStatement → List ℕ → List ℕ → List ℕ
answer_bytes kind signed previous text =
    number_of_kind kind ∷ length signed ∷ length text
    ∷ (flat_map (λ s. encoded s.statement) signed
    ++ (flat_map (λ s. s.tag) signed
    ++ (if has_text kind then previous ++ text else [])))

abbrev pub option_has_text : Option Kind → Bool
option_has_text None = false
option_has_text (Some kind) = has_text kind

-- the number is of a kind with a text
abbrev pub number_has_text : ℕ → Bool
number_has_text number = option_has_text (kind_of number)

-- the length that the first three bytes of an answer give
abbrev pub answer_length : ℕ → ℕ → ℕ → ℕ
answer_length number count size =
    answer_head + signed_statement_size * count + (if number_has_text number then previous_size + size else 0)

-- the bytes before the text, or all of them where there is none
abbrev pub head_length : Kind → ℕ
head_length kind = answer_head + signed_statement_size * statements_of kind + (if has_text kind then previous_size else 0)

-- an answer of any kind is at most so long
abbrev pub answer_limit : ℕ
answer_limit = head_length End + text_limit
