-- The bytes and rows of slots tell the records, and stay so when a record is put, or a slot takes the last one's contents.
use Rattle.std.proofs.Common.{◌≡◌, ℕ, zero, suc, ◌-◌, ◌*◌, ◌≤◌, true, List, [], ◌∷◌, ◌++◌, map, length, take, drop, replicate, sym, refl, ap, ◌∙◌, subst, append_assoc, arith}
use Rattle.std.proofs.lemmas.List.{drop_at, length-append, length-map, length-replicate, take_at}
use Rattle.std.proofs.lemmas.Bool.{and_parts}
use Rattle.notice.specs.Record.{is_record}
use Rattle.notice.proofs.Records.{record_short}
use Rattle.store.specs.Meaning.{Bytes, are_records, Records, Apart}
use Rattle.slotstore.specs.declared.row.Row.{Row}
use Rattle.slotstore.specs.Rows.{free_row, row_of}
use Rattle.slotstore.specs.Slots.{slot_limit, slot_size, padded, slotted, slots_of, rows_of, in_slots, SoundSlots}

pub length-padded : (r : Bytes) → is_record r ≡ true → length (padded r) ≡ slot_size
length-padded r g =
    let s = record_short r g in
    length-append r (replicate (slot_size - length r) 0) ∙ omega (arith, length-replicate {A = ℕ} (slot_size - length r) 0)

pub length-slotted : (rs : List Bytes) → Records rs → length (slotted rs) ≡ slot_size * length rs
length-slotted [] g = refl
length-slotted (r ∷ rs) g =
    let a = and_parts (is_record r) (are_records rs) g in
    let e = length-slotted rs a.1 in
    length-append (padded r) (slotted rs) ∙ omega (arith, length-padded r a.0, e)

pub slotted-append : (xs ys : List Bytes) → slotted (xs ++ ys) ≡ slotted xs ++ slotted ys
slotted-append [] ys = refl
slotted-append (x ∷ xs) ys = ap (λ z. padded x ++ z) (slotted-append xs ys) ∙ sym (append_assoc (padded x) (slotted xs) (slotted ys))

-- the bytes and rows tell the records
pub in_slots_of :
    (rs : List Bytes) (others : List Row) (zs : List ℕ) → Records rs →
    in_slots (length rs) (map row_of rs ++ others) (slotted rs ++ zs) ≡ rs
in_slots_of [] others zs g = refl
in_slots_of (r ∷ rs) others zs g =
    let a = and_parts (is_record r) (are_records rs) g in
    let rows = map row_of rs ++ others in
    let e : slotted (r ∷ rs) ++ zs ≡ padded r ++ (slotted rs ++ zs) = append_assoc (padded r) (slotted rs) zs in
    let f : padded r ++ (slotted rs ++ zs) ≡ r ++ (replicate (slot_size - length r) 0 ++ (slotted rs ++ zs)) =
    append_assoc r (replicate (slot_size - length r) 0) (slotted rs ++ zs) in
    let t : take (length r) (slotted (r ∷ rs) ++ zs) ≡ r =
    ap (take (length r)) (e ∙ f) ∙ take_at r (replicate (slot_size - length r) 0 ++ (slotted rs ++ zs)) (length r) refl in
    let d : drop slot_size (slotted (r ∷ rs) ++ zs) ≡ slotted rs ++ zs =
    ap (drop slot_size) e ∙ drop_at (padded r) (slotted rs ++ zs) slot_size (length-padded r a.0) in
    ap (λ z. z ∷ in_slots (length rs) rows (drop slot_size (slotted (r ∷ rs) ++ zs))) t
    ∙ (ap (λ z. r ∷ in_slots (length rs) rows z) d ∙ ap (λ z. r ∷ z) (in_slots_of rs others zs a.1))

pub length_in_slots : (n : ℕ) (rows : List Row) (area : List ℕ) → length (in_slots n rows area) ≡ n
length_in_slots zero rows area = refl
length_in_slots (suc n) rows area = ap suc (length_in_slots n (drop 1 rows) (drop slot_size area))

pub length-slots_of : (slots : ℕ) (rs : List Bytes) → Records rs → length rs ≤ slots → length (slots_of slots rs) ≡ slot_size * slots
length-slots_of slots rs good le =
    length-append (slotted rs) (replicate (slot_size * (slots - length rs)) 0)
    ∙ omega (arith, length-slotted rs good, length-replicate {A = ℕ} (slot_size * (slots - length rs)) 0)

pub length-rows_of : (slots : ℕ) (rs : List Bytes) → length rs ≤ slots → length (rows_of slots rs) ≡ slots
length-rows_of slots rs le =
    length-append (map row_of rs) (replicate (slots - length rs) free_row)
    ∙ omega (arith, length-map rs row_of, length-replicate (slots - length rs) free_row)

-- slots that hold the records, with these bytes and rows past them
pub record Holds (rs : List Bytes) (area bytes : List ℕ) (rows more : List Row) (slots used : ℕ) : Type 0 where
  pub sound : SoundSlots area rows slots used
  pub held : in_slots used rows area ≡ rs
  pub past : drop (slot_size * slots) area ≡ bytes
  pub others : drop slots rows ≡ more

pub image_holds :
    (rs : List Bytes) (area bytes : List ℕ) (rows others : List Row) (slots used : ℕ) →
    area ≡ slotted rs ++ (replicate (slot_size * (slots - used)) 0 ++ bytes) →
    rows ≡ map row_of rs ++ (replicate (slots - used) free_row ++ others) →
    used ≡ length rs → used ≤ slots → slots ≤ slot_limit → Records rs → Apart rs → Holds rs area bytes rows others slots used
image_holds rs area bytes rows others slots used e f n le lim good apart =
    let zs = replicate (slot_size * (slots - used)) 0 ++ bytes in
    let ws = replicate (slots - used) free_row ++ others in
    let p : in_slots used rows area ≡ rs =
    ap (λ z. in_slots used rows z) e ∙ (ap (λ z. in_slots used z (slotted rs ++ zs)) f
    ∙ (ap (λ k. in_slots k (map row_of rs ++ ws) (slotted rs ++ zs)) n ∙ in_slots_of rs ws zs good)) in
    let a : area ≡ (slotted rs ++ replicate (slot_size * (slots - used)) 0) ++ bytes = e ∙ sym (append_assoc (slotted rs) (replicate (slot_size * (slots - used)) 0) bytes) in
    let b : rows ≡ (map row_of rs ++ replicate (slots - used) free_row) ++ others = f ∙ sym (append_assoc (map row_of rs) (replicate (slots - used) free_row) others) in
    let la : length (slotted rs ++ replicate (slot_size * (slots - used)) 0) ≡ slot_size * slots =
    ap (λ k. length (slotted rs ++ replicate (slot_size * (slots - k)) 0)) n ∙ length-slots_of slots rs good (omega arith) in
    let lb : length (map row_of rs ++ replicate (slots - used) free_row) ≡ slots =
    ap (λ k. length (map row_of rs ++ replicate (slots - k) free_row)) n ∙ length-rows_of slots rs (omega arith) in
    let da : drop (slot_size * slots) area ≡ bytes = ap (drop (slot_size * slots)) a ∙ drop_at (slotted rs ++ replicate (slot_size * (slots - used)) 0) bytes (slot_size * slots) la in
    let db : drop slots rows ≡ others = ap (drop slots) b ∙ drop_at (map row_of rs ++ replicate (slots - used) free_row) others slots lb in
    let ma = ap length a ∙ length-append (slotted rs ++ replicate (slot_size * (slots - used)) 0) bytes in
    let mb = ap length b ∙ length-append (map row_of rs ++ replicate (slots - used) free_row) others in
    record {
      sound = record {
        bytes =
            a ∙ (ap (λ k. (slotted rs ++ replicate (slot_size * (slots - k)) 0) ++ bytes) n ∙ (ap (λ z. slots_of slots z ++ bytes) (sym p) ∙ ap (λ z. slots_of slots (in_slots used rows area) ++ z) (sym da)));
        told =
            b ∙ (ap (λ k. (map row_of rs ++ replicate (slots - k) free_row) ++ others) n ∙ (ap (λ z. rows_of slots z ++ others) (sym p) ∙ ap (λ z. rows_of slots (in_slots used rows area) ++ z) (sym db)));
        few = le;
        enough_bytes = omega (arith, ma, la);
        enough_rows = omega (arith, mb, lb);
        limited = lim;
        good = subst Records (sym p) good;
        apart = subst Apart (sym p) apart;
      };
      held = p;
      past = da;
      others = db;
    }

-- sound slots as their records and what follows
pub sound_parts :
    (area : List ℕ) (rows : List Row) (slots used : ℕ) → SoundSlots area rows slots used →
    (area ≡ slotted (in_slots used rows area) ++ (replicate (slot_size * (slots - used)) 0 ++ drop (slot_size * slots) area))
    × (rows ≡ map row_of (in_slots used rows area) ++ (replicate (slots - used) free_row ++ drop slots rows))
sound_parts area rows slots used s =
    let rs = in_slots used rows area in
    let n = length_in_slots used rows area in (
      s.bytes ∙ (append_assoc (slotted rs) (replicate (slot_size * (slots - length rs)) 0) (drop (slot_size * slots) area)
          ∙ ap (λ k. slotted rs ++ (replicate (slot_size * (slots - k)) 0 ++ drop (slot_size * slots) area)) n),
      s.told ∙ (append_assoc (map row_of rs) (replicate (slots - length rs) free_row) (drop slots rows)
          ∙ ap (λ k. map row_of rs ++ (replicate (slots - k) free_row ++ drop slots rows)) n),
    )

-- the rows in use are those of the records
pub sound_rows : (area : List ℕ) (rows : List Row) (slots used : ℕ) → SoundSlots area rows slots used → take used rows ≡ map row_of (in_slots used rows area)
sound_rows area rows slots used s =
    let rs = in_slots used rows area in
    let n = length-map rs row_of ∙ length_in_slots used rows area in
    ap (take used) (sound_parts area rows slots used s).1 ∙ take_at (map row_of rs) (replicate (slots - used) free_row ++ drop slots rows) used n
