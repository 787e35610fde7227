-- The log: records end to end, each after its length in two bytes, then zero bytes.
use Rattle.std.specs.Prelude.{◌≡◌, ℕ, zero, suc, ◌+◌, ◌-◌, ◌*◌, ◌/◌, ◌%◌, ◌≤◌, Bool, true, ◌&&◌, if◌then◌else◌, List, [], ◌∷◌, ◌++◌, length, take, drop, replicate, nat_le, slice_index}
use Rattle.store.specs.Meaning.{Bytes, Records, Apart}

-- the bytes of the length before each record
abbrev pub length_size : ℕ
length_size = 2

-- the bytes of the largest area that a log can use
abbrev pub log_limit : ℕ
log_limit = 65536

-- a length in two bytes
abbrev pub two : ℕ → List ℕ
two n = n / 256 ∷ n % 256 ∷ []

-- a record after its length
abbrev pub framed : Bytes → List ℕ
framed r = two (length r) ++ r

abbrev pub laid : List Bytes → List ℕ
laid [] = []
laid (r ∷ rs) = two (length r) ++ (r ++ laid rs)

-- the log of so many bytes that holds the records
abbrev pub log_of : ℕ → List Bytes → List ℕ
log_of room rs = laid rs ++ replicate (room - length (laid rs)) 0

-- a record of a length fits when the used bytes, its length's and its own are at most the room
abbrev pub log_takes : ℕ → List Bytes → ℕ → Bool
log_takes room rs n = nat_le (length (laid rs) + (length_size + n)) room

-- how much of an area of a length a log may use: all, or nothing of one that is too long
abbrev pub log_space : ℕ → ℕ
log_space n = if nat_le n log_limit then n else 0

-- the length in the first two bytes
unfoldable pub size_at : List ℕ → ℕ
size_at bytes = slice_index bytes 0 * 256 + slice_index bytes 1

-- the first record of a log, and what follows it
unfoldable pub first : List ℕ → Bytes
first bytes = take (size_at bytes) (drop length_size bytes)

unfoldable pub rest : List ℕ → List ℕ
rest bytes = drop (length_size + size_at bytes) bytes

-- the first n records of a log
abbrev pub parse : ℕ → List ℕ → List Bytes
parse zero bytes = []
parse (suc n) bytes = first bytes ∷ parse n (rest bytes)

-- the first n lengths keep within the bytes
abbrev pub has_layout : ℕ → List ℕ → Bool
has_layout zero bytes = true
has_layout (suc n) bytes = nat_le (length_size + size_at bytes) (length bytes) && has_layout n (rest bytes)

abbrev pub Layout : ℕ → List ℕ → Type 0
Layout n bytes = has_layout n bytes ≡ true

-- The area of a log store is the log of its records over its room, then what lies past its room. A wrong area has no room.
pub record SoundLog (area : List ℕ) (used count : ℕ) : Type 0 where
  pub lies : area ≡ log_of (log_space (length area)) (parse count area) ++ drop (log_space (length area)) area
  pub reach : used ≡ length (laid (parse count area))
  pub full : used ≤ log_space (length area)
  pub good : Records (parse count area)
  pub apart : Apart (parse count area)
