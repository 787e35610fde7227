-- A record: a signed statement, the previous digest, the text length (1) and the text.
use Rattle.std.specs.Prelude.{◌≡◌, ℕ, ◌+◌, ◌/◌, ◌%◌, Bool, ◌&&◌, List, ◌∷◌, ◌++◌, length, take, drop, ◌==◌, nat_le, nat_lt, slice_index}
use Rattle.statement.specs.declared.types.SignedStatement.{SignedStatement}
use Rattle.statement.specs.Layout.{encoded_signed, decoded_signed, signed_statement_size}
use Rattle.notice.specs.declared.spans.Span.{Span}
use Rattle.notice.specs.Limits.{previous_size, text_limit, record_head, has_room_after}
use Rattle.notice.specs.Spans.{span_contains}

-- the record of a signed statement, the previous digest and a text
unfoldable pub recorded : SignedStatement → List ℕ → List ℕ → List ℕ
recorded s previous text = encoded_signed s ++ (previous ++ (length text ∷ text))

-- a text of that size may be recorded in an area of that length
abbrev pub has_room : ℕ → ℕ → Bool
has_room size room = has_room_after record_head size room

-- what a record's bytes say

unfoldable pub signed_of : List ℕ → SignedStatement
signed_of r = decoded_signed r

unfoldable pub counter_of : List ℕ → ℕ
counter_of r = (decoded_signed r).statement.counter

unfoldable pub old_of : List ℕ → ℕ
old_of r = (decoded_signed r).statement.old

unfoldable pub new_of : List ℕ → ℕ
new_of r = (decoded_signed r).statement.new

unfoldable pub previous_of : List ℕ → List ℕ
previous_of r = take previous_size (drop signed_statement_size r)

unfoldable pub size_of : List ℕ → ℕ
size_of r = slice_index r (signed_statement_size + previous_size)

unfoldable pub text_of : List ℕ → List ℕ
text_of r = drop record_head r

-- a record of the queue q is of the counter 2 q + 1
unfoldable pub queue_of : List ℕ → ℕ
queue_of r = counter_of r / 2

-- a record's span: its lane is its queue
abbrev pub span_of : List ℕ → Span
span_of r = record { lane = queue_of r; old = old_of r; new = new_of r }

-- a record that may be kept
unfoldable pub is_record : List ℕ → Bool
is_record r =
    (length r == record_head + size_of r)
    && (nat_le (size_of r) text_limit
    && (counter_of r % 2 == 1
    && (nat_le (counter_of r) 15
    && nat_lt (old_of r) (new_of r))))

-- the record is of the queue and spans the position: old + 1 to new
unfoldable pub covers : ℕ → ℕ → List ℕ → Bool
covers q p r = span_contains (span_of r) q p

-- the bytes say these parts
pub record Tells (s : SignedStatement) (digest words r : List ℕ) : Type 0 where
  pub signed : signed_of r ≡ s
  pub counter : counter_of r ≡ s.statement.counter
  pub old : old_of r ≡ s.statement.old
  pub new : new_of r ≡ s.statement.new
  pub previous : previous_of r ≡ digest
  pub size : size_of r ≡ length words
  pub text : text_of r ≡ words
