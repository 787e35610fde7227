-- What a log store shows: its records, what fits, its area and its room.
use Rattle.std.specs.Prelude.{◌≡◌, ℕ, ◌+◌, Bool, List, ◌++◌, length, drop, nat_le}
use Rattle.logstore.specs.declared.types.LogStore.{LogStore}
use Rattle.store.specs.Meaning.{Bytes}
use Rattle.logstore.specs.Log.{length_size, log_of, log_space, log_takes, parse}

abbrev pub log_area : LogStore → List ℕ
log_area s = s.area.now

abbrev pub log_held : LogStore → List Bytes
log_held s = parse s.held.count s.area.now

abbrev pub log_room : LogStore → ℕ
log_room s = log_space (length (log_area s))

-- a record fits when the used bytes, its length's and its own are at most the room
abbrev pub log_fits : LogStore → ℕ → Bool
log_fits s n = nat_le (s.held.used + (length_size + n)) (log_room s)

-- what a call leaves: the same room, the log of the records held in it, what lies past it as it was, and what fits
pub record Kept (before after : LogStore) : Type 0 where
  pub room : log_room after ≡ log_room before
  pub area : log_area after ≡ log_of (log_room before) (log_held after) ++ drop (log_room before) (log_area before)
  pub fitting : (n : ℕ) → log_fits after n ≡ log_takes (log_room before) (log_held after) n
