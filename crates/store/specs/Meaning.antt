-- What a store means: a set of records, no two of one queue sharing a position, and the lengths that fit.
use Rattle.std.specs.Prelude.{◌≡◌, ℕ, ◌≤◌, Bool, true, List, [], ◌∷◌, ◌++◌, length, drop, is_ok, Some, None, Ok, Err, count_by, Option, Result, nat_le, if◌then◌else◌}
use Rattle.std.specs.List.{list_all, list_any, find}
use Rattle.std.specs.Option.{option_map}
use Rattle.notice.specs.declared.spans.Span.{Span}
use Rattle.notice.specs.Limits.{record_limit}
use Rattle.notice.specs.Record.{counter_of, span_of, is_record, covers}
use Rattle.notice.specs.Spans.{spans_meet, span_is_kept}
use Rattle.store.specs.declared.fault.StoreFault.{StoreFault}
use Rattle.store.specs.declared.fault.StoreFault.TheVariants.{BadRecord, AlreadySpanned, DoesNotFit, ShortArea}

abbrev pub Bytes : Type 0
Bytes = List ℕ

-- each is a record of the high counter of a queue
abbrev pub are_records : List Bytes → Bool
are_records rs = list_all is_record rs

abbrev pub Records : List Bytes → Type 0
Records rs = are_records rs ≡ true

-- no two of one queue share a position
abbrev pub Apart : List Bytes → Type 0
Apart rs = (q p : ℕ) → count_by (covers q p) rs ≤ 1

-- Put.

-- the record is of the span's lane and shares a position with it
unfoldable pub meets : Span → Bytes → Bool
meets span r = spans_meet (span_of r) span

abbrev pub any_meets : Span → List Bytes → Bool
any_meets span rs = list_any (meets span) rs

-- a position of the record's queue that it spans is spanned already
unfoldable pub spanned : List Bytes → Bytes → Bool
spanned held r = any_meets (span_of r) held

-- whether a record is taken, from whether a position that it spans is spanned already and whether it fits: the refusals
-- of put in their order
abbrev pub admitting : Bool → Bool → Bytes → Result (Unit {0}) StoreFault
admitting is_spanned fits r =
    if is_record r
    then (if is_spanned
    then Err (AlreadySpanned (counter_of r))
    else (if fits then Ok tt else Err (DoesNotFit (counter_of r))))
    else Err BadRecord

-- what put answers, from whether the record fits, what is held, and the record
unfoldable pub putting : Bool → List Bytes → Bytes → Result (Unit {0}) StoreFault
putting fits held r = admitting (spanned held r) fits r

-- a record is held after those that were there
unfoldable pub after_put : Bool → List Bytes → Bytes → List Bytes
after_put fits held r = if is_ok (putting fits held r) then held ++ r ∷ [] else held

-- Cover.

-- the record of the queue that spans the position
abbrev pub found : ℕ → ℕ → List Bytes → Option Bytes
found q p rs = find (covers q p) rs

-- a record copied to the front of an area
abbrev pub laid_over : Option Bytes → List ℕ → List ℕ
laid_over None area = area
laid_over (Some r) area = r ++ drop (length r) area

unfoldable pub covering : List Bytes → ℕ → ℕ → List ℕ → Result (Option ℕ) StoreFault
covering held q p area =
    if nat_le record_limit (length area) then Ok (option_map length (found q p held)) else Err ShortArea

unfoldable pub covered : List Bytes → ℕ → ℕ → List ℕ → List ℕ
covered held q p area = if nat_le record_limit (length area) then laid_over (found q p held) area else area

-- Forget.

-- a record stays unless it is of the queue and its new is below n
unfoldable pub stays : ℕ → ℕ → Bytes → Bool
stays q n r = span_is_kept (span_of r) q n
