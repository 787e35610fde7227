-- What a slot store shows: its records, what fits, its area, its rows and its slots.
use Rattle.std.specs.Prelude.{◌≡◌, ℕ, ◌*◌, Bool, List, ◌++◌, length, drop, nat_lt}
use Rattle.store.specs.Meaning.{Bytes}
use Rattle.slotstore.specs.declared.row.Row.{Row}
use Rattle.slotstore.specs.declared.slots.SlotStore.{SlotStore}
use Rattle.slotstore.specs.Slots.{slot_size, slot_space, in_slots, slots_of, rows_of}

abbrev pub slot_area : SlotStore → List ℕ
slot_area s = s.area.now

abbrev pub slot_rows : SlotStore → List Row
slot_rows s = s.rows.now

-- how many slots may be used: as many as there are rows, where the area is of so many slots and they are not too many
abbrev pub slot_count : SlotStore → ℕ
slot_count s = slot_space (length (slot_area s)) (length (slot_rows s))

abbrev pub slot_held : SlotStore → List Bytes
slot_held s = in_slots s.used (slot_rows s) (slot_area s)

-- a record fits when fewer are held than there are slots
abbrev pub slot_fits : SlotStore → ℕ → Bool
slot_fits s n = nat_lt s.used (slot_count s)

-- what a call leaves: the same slots, their bytes and rows those of the records held, what lies past them as it was,
-- and what fits
pub record Kept (before after : SlotStore) : Type 0 where
  pub slots : slot_count after ≡ slot_count before
  pub area : slot_area after ≡ slots_of (slot_count before) (slot_held after) ++ drop (slot_size * slot_count before) (slot_area before)
  pub rows : slot_rows after ≡ rows_of (slot_count before) (slot_held after) ++ drop (slot_count before) (slot_rows before)
  pub fitting : (n : ℕ) → slot_fits after n ≡ nat_lt (length (slot_held after)) (slot_count before)
