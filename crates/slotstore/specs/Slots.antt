-- Slots of equal size, those in use first: a record and zero bytes in each, and zero bytes in a free one.
use Rattle.std.specs.Prelude.{◌≡◌, ℕ, zero, suc, ◌+◌, ◌-◌, ◌*◌, ◌≤◌, Bool, if◌then◌else◌, ◌&&◌, List, [], ◌∷◌, ◌++◌, map, length, take, drop, replicate, ◌==◌, nat_le, slice_index_or}
use Rattle.store.specs.Meaning.{Bytes, Records, Apart}
use Rattle.slotstore.specs.declared.row.Row.{Row}
use Rattle.slotstore.specs.Rows.{free_row, row_of}

-- the bytes of a slot
abbrev pub slot_size : ℕ
slot_size = 320

-- a store has at most so many slots
abbrev pub slot_limit : ℕ
slot_limit = 200

abbrev pub padded : Bytes → List ℕ
padded r = r ++ replicate (slot_size - length r) 0

abbrev pub slotted : List Bytes → List ℕ
slotted [] = []
slotted (r ∷ rs) = padded r ++ slotted rs

-- the bytes and the rows of so many slots that hold the records
abbrev pub slots_of : ℕ → List Bytes → List ℕ
slots_of slots rs = slotted rs ++ replicate (slot_size * (slots - length rs)) 0

abbrev pub rows_of : ℕ → List Bytes → List Row
rows_of slots rs = map row_of rs ++ replicate (slots - length rs) free_row

-- the records in the first n slots
abbrev pub in_slots : ℕ → List Row → List ℕ → List Bytes
in_slots zero rows area = []
in_slots (suc n) rows area = take (slice_index_or rows 0 free_row).length area ∷ in_slots n (drop 1 rows) (drop slot_size area)

-- an area of so many bytes is one of as many slots as there are rows, and they are not too many
abbrev pub is_slot_area : ℕ → ℕ → Bool
is_slot_area bytes rows = bytes == slot_size * rows && nat_le rows slot_limit

-- how many slots may be used
abbrev pub slot_space : ℕ → ℕ → ℕ
slot_space bytes rows = if is_slot_area bytes rows then rows else 0

-- the bytes of one slot copied over those of another
abbrev pub slot_copied : ℕ → ℕ → List ℕ → List ℕ
slot_copied from to area =
    (take (slot_size * to) area ++ take slot_size (drop (slot_size * from) area)) ++ drop (slot_size * to + slot_size) area

-- a slot zeroed
abbrev pub slot_freed : ℕ → List ℕ → List ℕ
slot_freed k area = (take (slot_size * k) area ++ replicate slot_size 0) ++ drop (slot_size * k + slot_size) area

-- The area and the rows of a slot store are those of its records over its slots, then what lies past them.
pub record SoundSlots (area : List ℕ) (rows : List Row) (slots used : ℕ) : Type 0 where
  pub bytes : area ≡ slots_of slots (in_slots used rows area) ++ drop (slot_size * slots) area
  pub told : rows ≡ rows_of slots (in_slots used rows area) ++ drop slots rows
  pub few : used ≤ slots
  pub enough_bytes : slot_size * slots ≤ length area
  pub enough_rows : slots ≤ length rows
  pub limited : slots ≤ slot_limit
  pub good : Records (in_slots used rows area)
  pub apart : Apart (in_slots used rows area)

-- Forget.

-- the last record comes first
abbrev pub rolled : List Bytes → List Bytes
rolled rs = drop (length rs - 1) rs ++ take (length rs - 1) rs

-- The first slot is kept, or takes the contents of the last one and is tried again; n is how many are to be tried.
abbrev pub swept : ℕ → (Bytes → Bool) → List Bytes → List Bytes
swept zero p rs = []
swept (suc n) p [] = []
swept (suc n) p (r ∷ rs) = if p r then r ∷ swept n p rs else swept n p (rolled rs)
