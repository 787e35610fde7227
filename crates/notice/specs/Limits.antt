-- How long texts, records and digest inputs are.
use Rattle.std.specs.Prelude.{ℕ, ◌+◌, Bool, ◌&&◌, nat_le}
use Rattle.statement.specs.Layout.{signed_statement_size}

abbrev pub previous_size : ℕ
previous_size = 32

abbrev pub text_limit : ℕ
text_limit = 200

-- signed statement, previous digest, text length 1
abbrev pub record_head : ℕ
record_head = signed_statement_size + previous_size + 1

abbrev pub record_limit : ℕ
record_limit = record_head + text_limit

-- queue 1, old 4, new 4, previous digest
abbrev pub input_head : ℕ
input_head = 1 + 4 + 4 + previous_size

abbrev pub input_limit : ℕ
input_limit = input_head + text_limit

-- an answer before its statements: kind, number of statements and text length
abbrev pub answer_head : ℕ
answer_head = 3

-- a head, and a text of that size after it, may be written into an area of that length
abbrev pub has_room_after : ℕ → ℕ → ℕ → Bool
has_room_after head size room = nat_le size text_limit && nat_le (head + size) room
