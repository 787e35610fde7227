-- The rows of slots.
use Rattle.std.specs.Prelude.{length}
use Rattle.notice.specs.declared.spans.Span.{Span}
use Rattle.notice.specs.Record.{queue_of, old_of, new_of}
use Rattle.store.specs.Meaning.{Bytes}
use Rattle.slotstore.specs.declared.row.Row.{Row}

-- the row of a free slot
abbrev pub free_row : Row
free_row = record { queue = 0; old = 0; new = 0; length = 0 }

abbrev pub row_of : Bytes → Row
row_of r = record { queue = queue_of r; old = old_of r; new = new_of r; length = length r }

-- the positions that a row's record spans
abbrev pub row_span : Row → Span
row_span row = record { lane = row.queue; old = row.old; new = row.new }
