-- Slots stay sound when a record is put into the next one, and when one takes the contents of the last.
use Rattle.std.proofs.Common.{◌≡◌, ℕ, suc, ◌+◌, ◌-◌, ◌*◌, ◌<◌, ◌≤◌, true, false, cond, List, [], ◌∷◌, ◌++◌, map, length, get_or, take, drop, set, replicate, sym, ap, ◌∙◌, subst, append_assoc, arith}
use Rattle.std.proofs.lemmas.List.{append-nil, drop_all, drop_at, drop-append-le, drop-drop, drop-replicate, get_or_append_left, get_or-map, length-map, length_push, length-replicate, length-set, length-take-le, map-append, map-set, replicate-append-replicate, set-append_left, set-append_right, set_split, take_at, take-map}
use Rattle.std.specs.List.{swap_remove}
use Rattle.std.proofs.lemmas.List.Sums.{sum_by-swap_remove}
use Rattle.std.proofs.lemmas.Bool.{and_from}
use Rattle.notice.specs.Record.{is_record, covers}
use Rattle.notice.proofs.Records.{record_short}
use Rattle.store.specs.Meaning.{Bytes, Records, Apart, spanned}
use Rattle.store.proofs.Sets.{records_push, records_append, records_take, records_drop, record_at, apart_push}
use Rattle.notice.specs.Limits.{record_limit}
use Rattle.slotstore.specs.declared.row.Row.{Row}
use Rattle.slotstore.specs.Rows.{free_row, row_of}
use Rattle.slotstore.specs.Slots.{slot_limit, slot_size, padded, slotted, in_slots, SoundSlots}
use Rattle.slotstore.proofs.Images.{Holds, image_holds, sound_parts, length_in_slots, length-slotted, slotted-append}
use Rattle.slotstore.proofs.Blocks.{before-slot, after-slot, record-bytes, slot-bytes, slot-written}

-- the row of a slot in use is that of its record
pub sound_row :
    (area : List ℕ) (rows : List Row) (slots used k : ℕ) → SoundSlots area rows slots used → k < used →
    get_or rows k free_row ≡ row_of (get_or (in_slots used rows area) k [])
sound_row area rows slots used k s h =
    let rs = in_slots used rows area in
    let n = length_in_slots used rows area in
    let lm : length (map row_of rs) ≡ used = length-map rs row_of ∙ n in
    ap (λ z. get_or z k free_row) (sound_parts area rows slots used s).1
    ∙ (get_or_append_left (map row_of rs) (replicate (slots - used) free_row ++ drop slots rows) free_row k (omega arith)
    ∙ get_or-map row_of rs k [] free_row (omega arith))

-- what a row tells of the bytes of its slot
pub record TellsRecord (area : List ℕ) (row : Row) (k : ℕ) (r : Bytes) : Type 0 where
  pub size : row.length ≡ length r
  pub bytes : take row.length (drop (slot_size * k) area) ≡ r
  pub within : slot_size * k + row.length ≤ length area
  pub short : length r ≤ record_limit
  pub place : k < slot_limit
  pub good : is_record r ≡ true

pub sound_record :
    (area : List ℕ) (rows : List Row) (slots used k : ℕ) → SoundSlots area rows slots used → k < used →
    TellsRecord area (get_or rows k free_row) k (get_or (in_slots used rows area) k [])
sound_record area rows slots used k s h =
    let rs = in_slots used rows area in
    let n = length_in_slots used rows area in
    let r = get_or rs k [] in
    let good = record_at rs k (omega arith) s.good in
    let e : (get_or rows k free_row).length ≡ length r = ap (λ z. z.length) (sound_row area rows slots used k s h) in
    record {
      size = e;
      bytes =
          ap (λ m. take m (drop (slot_size * k) area)) e
          ∙ (ap (λ z. take (length r) (drop (slot_size * k) z)) (sound_parts area rows slots used s).0
          ∙ record-bytes rs (replicate (slot_size * (slots - used)) 0 ++ drop (slot_size * slots) area) k (omega arith) s.good);
      within = omega (arith, e, record_short r good, s.few, s.enough_bytes);
      short = record_short r good;
      place = omega (arith, s.few, s.limited);
      good = good;
    }

-- a record put into the next slot
pub appended :
    (area area' : List ℕ) (rows rows' : List Row) (slots used : ℕ) (r : Bytes) → SoundSlots area rows slots used →
    is_record r ≡ true → spanned (in_slots used rows area) r ≡ false → used < slots →
    area' ≡ (take (slot_size * used) area ++ r) ++ drop (slot_size * used + length r) area → rows' ≡ set rows used (row_of r) →
    Holds (in_slots used rows area ++ r ∷ []) area' (drop (slot_size * slots) area) rows' (drop slots rows) slots (used + 1)
appended area area' rows rows' slots used r s good free fits e f =
    let rs = in_slots used rows area in
    let n = length r in
    let short = record_short r good in
    let bytes = drop (slot_size * slots) area in
    let others = drop slots rows in
    let count = length_in_slots used rows area in
    let parts = sound_parts area rows slots used s in
    let zeros : List ℕ = replicate (slot_size * (slots - used)) 0 in
    let l : length (slotted rs) ≡ slot_size * used = length-slotted rs s.good ∙ ap (λ k. slot_size * k) count in
    let t : take (slot_size * used) area ≡ slotted rs = ap (take (slot_size * used)) parts.0 ∙ take_at (slotted rs) (zeros ++ bytes) (slot_size * used) l in
    let d0 : drop (slot_size * used) area ≡ zeros ++ bytes = ap (drop (slot_size * used)) parts.0 ∙ drop_at (slotted rs) (zeros ++ bytes) (slot_size * used) l in
    let lz : length zeros ≡ slot_size * (slots - used) = length-replicate (slot_size * (slots - used)) 0 in
    let k : slot_size * (slots - used) - n ≡ (slot_size - n) + slot_size * (slots - (used + 1)) = omega arith in
    let d : drop (slot_size * used + n) area ≡ replicate (slot_size - n) 0 ++ (replicate (slot_size * (slots - (used + 1))) 0 ++ bytes) =
    sym (drop-drop n (slot_size * used) area)
    ∙ (ap (drop n) d0
    ∙ (drop-append-le n zeros bytes (omega arith)
    ∙ (ap (λ z. z ++ bytes) (drop-replicate n (slot_size * (slots - used)) 0 ∙ (ap (λ m. replicate m 0) k ∙ sym (replicate-append-replicate (slot_size - n) (slot_size * (slots - (used + 1))) 0)))
    ∙ append_assoc (replicate (slot_size - n) 0) (replicate (slot_size * (slots - (used + 1))) 0) bytes))) in
    let zs = replicate (slot_size * (slots - (used + 1))) 0 ++ bytes in
    let last : slotted (r ∷ []) ≡ r ++ replicate (slot_size - n) 0 = append-nil (padded r) in
    let a : area' ≡ slotted (rs ++ r ∷ []) ++ zs =
    e ∙ (ap (λ z. (z ++ r) ++ drop (slot_size * used + n) area) t
    ∙ (ap (λ z. (slotted rs ++ r) ++ z) d
    ∙ (append_assoc (slotted rs) r (replicate (slot_size - n) 0 ++ zs)
    ∙ (ap (λ z. slotted rs ++ z) (sym (append_assoc r (replicate (slot_size - n) 0) zs))
    ∙ (sym (append_assoc (slotted rs) (r ++ replicate (slot_size - n) 0) zs)
    ∙ ap (λ z. z ++ zs) (ap (λ z. slotted rs ++ z) (sym last) ∙ sym (slotted-append rs (r ∷ [])))))))) in
    let lm : length (map row_of rs) ≡ used = length-map rs row_of ∙ count in
    let m : slots - used ≡ suc (slots - (used + 1)) = omega arith in
    let b : rows' ≡ map row_of (rs ++ r ∷ []) ++ (replicate (slots - (used + 1)) free_row ++ others) =
    f ∙ (ap (λ z. set z used (row_of r)) parts.1
    ∙ (set-append_right (map row_of rs) (replicate (slots - used) free_row ++ others) used used (row_of r) lm (omega arith)
    ∙ (ap (λ z. map row_of rs ++ set (replicate (slots - used) free_row ++ others) z (row_of r)) (omega arith)
    ∙ (ap (λ z. map row_of rs ++ set (replicate z free_row ++ others) 0 (row_of r)) m
    ∙ (sym (append_assoc (map row_of rs) (row_of r ∷ []) (replicate (slots - (used + 1)) free_row ++ others))
    ∙ ap (λ z. z ++ (replicate (slots - (used + 1)) free_row ++ others)) (sym (map-append row_of rs (r ∷ [])))))))) in
    image_holds (rs ++ r ∷ []) area' bytes rows' others slots (used + 1) a b
    (sym (length_push rs r ∙ ap (λ z. z + 1) count)) (omega arith) s.limited (records_push rs r s.good good) (apart_push rs r s.apart free)

-- no two share a position after one took the place of another
apart_swapped : (rs : List Bytes) (i : ℕ) → i < length rs → Apart rs → Apart (swap_remove rs i [])
apart_swapped rs i h g q p = omega (arith, g q p, sum_by-swap_remove (λ x. cond (covers q p x) 1 0) rs i [] h)

-- a slot takes the contents of the last one, whose bytes and row are zeroed
pub vacated :
    (area area' area'' : List ℕ) (rows rows'' : List Row) (slots used i last : ℕ) → SoundSlots area rows slots used →
    used ≡ last + 1 → i ≤ last →
    area' ≡ (take (slot_size * i) area ++ take slot_size (drop (slot_size * last) area)) ++ drop (slot_size * i + slot_size) area →
    area'' ≡ (take (slot_size * last) area' ++ replicate slot_size 0) ++ drop (slot_size * last + slot_size) area' →
    rows'' ≡ set (set rows i (get_or rows last free_row)) last free_row →
    Holds (swap_remove (in_slots used rows area) i []) area'' (drop (slot_size * slots) area) rows'' (drop slots rows) slots last
vacated area area' area'' rows rows'' slots used i last s u le e g f =
    let rs = in_slots used rows area in
    let count : length rs ≡ last + 1 = length_in_slots used rows area ∙ u in
    let y = get_or rs last [] in
    let l1 = take i rs ++ y ∷ drop (i + 1) rs in
    let ks = take last l1 in
    let bytes = drop (slot_size * slots) area in
    let others = drop slots rows in
    let zs : List ℕ = replicate (slot_size * (slots - used)) 0 ++ bytes in
    let ws : List Row = replicate (slots - used) free_row ++ others in
    let parts = sound_parts area rows slots used s in
    let gy : is_record y ≡ true = record_at rs last (omega arith) s.good in
    let j : suc i ≡ i + 1 = omega arith in
    let is_set : set rs i y ≡ l1 = set_split rs i y (omega arith) ∙ ap (λ k. take i rs ++ y ∷ drop k rs) j in
    let n1 : length l1 ≡ last + 1 = ap length (sym is_set) ∙ (length-set rs i y ∙ count) in
    let good1 : Records l1 = records_append (take i rs) (y ∷ drop (i + 1) rs) (records_take i rs s.good) (and_from _ _ gy (records_drop (i + 1) rs s.good)) in
    let whole : area ≡ slotted rs ++ zs = parts.0 in
    let a1 : area' ≡ slotted l1 ++ zs =
    e ∙ (ap (λ z. (take (slot_size * i) z ++ take slot_size (drop (slot_size * last) z)) ++ drop (slot_size * i + slot_size) z) whole
    ∙ (ap (λ z. (take (slot_size * i) (slotted rs ++ zs) ++ z) ++ drop (slot_size * i + slot_size) (slotted rs ++ zs)) (slot-bytes rs zs last (omega arith) s.good)
    ∙ slot-written rs zs i (omega arith) s.good y)) in
    let none : drop (last + 1) l1 ≡ [] = drop_all (last + 1) l1 (omega arith) in
    let k : slot_size + slot_size * (slots - used) ≡ slot_size * (slots - last) = omega (arith, s.few) in
    let a2 : area'' ≡ slotted ks ++ (replicate (slot_size * (slots - last)) 0 ++ bytes) =
    g ∙ (ap (λ z. (take (slot_size * last) z ++ replicate slot_size 0) ++ drop (slot_size * last + slot_size) z) a1
    ∙ (ap (λ z. (z ++ replicate slot_size 0) ++ drop (slot_size * last + slot_size) (slotted l1 ++ zs)) (before-slot l1 zs last (omega arith) good1)
    ∙ (ap (λ z. (slotted ks ++ replicate slot_size 0) ++ z) (after-slot l1 zs last (omega arith) good1 ∙ ap (λ z. slotted z ++ zs) none)
    ∙ (append_assoc (slotted ks) (replicate slot_size 0) zs
    ∙ ap (λ z. slotted ks ++ z)
    (sym (append_assoc (replicate slot_size 0) (replicate (slot_size * (slots - used)) 0) bytes)
    ∙ ap (λ z. z ++ bytes) (replicate-append-replicate slot_size (slot_size * (slots - used)) 0 ∙ ap (λ m. replicate m 0) k)))))) in
    let lm : length (map row_of rs) ≡ last + 1 = length-map rs row_of ∙ count in
    let x : get_or rows last free_row ≡ row_of y =
    ap (λ z. get_or z last free_row) parts.1
    ∙ (get_or_append_left (map row_of rs) ws free_row last (omega arith) ∙ get_or-map row_of rs last [] free_row (omega arith)) in
    let r1 : set rows i (get_or rows last free_row) ≡ map row_of l1 ++ ws =
    ap (set rows i) x
    ∙ (ap (λ z. set z i (row_of y)) parts.1
    ∙ (set-append_left (map row_of rs) ws i (row_of y) (omega arith)
    ∙ ap (λ z. z ++ ws) (sym (map-set row_of rs i y) ∙ ap (map row_of) is_set))) in
    let lm1 : length (map row_of l1) ≡ last + 1 = length-map l1 row_of ∙ n1 in
    let tail : drop (suc last) (map row_of l1) ≡ [] = drop_all (suc last) (map row_of l1) (omega arith) in
    let m : slots - last ≡ suc (slots - used) = omega (arith, s.few) in
    let b2 : rows'' ≡ map row_of ks ++ (replicate (slots - last) free_row ++ others) =
    f ∙ (ap (λ z. set z last free_row) r1
    ∙ (set-append_left (map row_of l1) ws last free_row (omega arith)
    ∙ (ap (λ z. z ++ ws) (set_split (map row_of l1) last free_row (omega arith) ∙ (ap (λ z. z ++ free_row ∷ drop (suc last) (map row_of l1)) (take-map row_of last l1) ∙ ap (λ z. map row_of ks ++ free_row ∷ z) tail))
    ∙ (append_assoc (map row_of ks) (free_row ∷ []) ws
    ∙ ap (λ z. map row_of ks ++ (replicate z free_row ++ others)) (sym m))))) in
    let one : length rs - 1 ≡ last = omega arith in
    let moved : swap_remove rs i [] ≡ ks = ap (λ n. take n (set rs i (get_or rs n []))) one ∙ ap (take last) is_set in
    let m2 =
    image_holds ks area'' bytes rows'' others slots last a2 b2 (sym (length-take-le last l1 (omega arith))) (omega (arith, s.few)) s.limited
    (records_take last l1 good1) (subst Apart moved (apart_swapped rs i (omega arith) s.apart)) in
    record { sound = m2.sound; held = m2.held ∙ sym moved; past = m2.past; others = m2.others }
