-- A slot store seen by its rows, and what a change of its area, rows and number in use makes of it.
use Rattle.std.proofs.Common.{◌≡◌, ℕ, ◌+◌, ◌-◌, ◌*◌, ◌<◌, ◌≤◌, true, false, not, ltb, List, [], ◌∷◌, ◌++◌, map, length, get_or, take, drop, set, Option, sym, refl, ap, ◌∙◌, arith}
use Rattle.std.specs.List.{list_any, position, swap_remove}
use Rattle.std.specs.Option.{option_map}
use Rattle.std.proofs.lemmas.List.{drop_at, drop-map, drop-take}
use Rattle.std.proofs.lemmas.Bool.{ltb-true}
use Rattle.notice.specs.declared.spans.Span.{Span}
use Rattle.notice.specs.Record.{is_record}
use Rattle.notice.specs.Spans.{span_contains, spans_meet, span_is_kept}
use Rattle.store.specs.Meaning.{Bytes, any_meets, spanned, found, stays}
use Rattle.slotstore.specs.declared.row.Row.{Row}
use Rattle.slotstore.specs.declared.slots.SlotStore.{SlotStore}
use Rattle.slotstore.specs.Rows.{free_row, row_of, row_span}
use Rattle.slotstore.specs.Slots.{slot_size, slots_of, rows_of, slot_space, slot_copied, slot_freed, in_slots, SoundSlots}
use Rattle.slotstore.specs.SlotStores.{slot_area, slot_rows, slot_count, slot_held, slot_fits, Kept}
use Rattle.slotstore.proofs.Images.{Holds, sound_rows, length_in_slots, length-slots_of, length-rows_of}
use Rattle.slotstore.proofs.RowLists.{covering_row, row_below, meeting_row, found_at_position}
use Rattle.slotstore.proofs.Changes.{TellsRecord, sound_record, appended, vacated}

-- What a store shows.

pub length-slot_held : (s : SlotStore) → length (slot_held s) ≡ s.used
length-slot_held s = length_in_slots s.used (slot_rows s) (slot_area s)

held_rows : (s : SlotStore) → take s.used (slot_rows s) ≡ map row_of (slot_held s)
held_rows s = sound_rows (slot_area s) (slot_rows s) (slot_count s) s.used s.sound

pub told_record :
    (s : SlotStore) (k : ℕ) → k < s.used → TellsRecord (slot_area s) (get_or (slot_rows s) k free_row) k (get_or (slot_held s) k [])
told_record s k h = sound_record (slot_area s) (slot_rows s) (slot_count s) s.used k s.sound h

pub found_by_row :
    (s : SlotStore) (q p : ℕ) (place : Option ℕ) →
    place ≡ position (λ row. span_contains (row_span row) q p) (take s.used (slot_rows s)) →
    found q p (slot_held s) ≡ option_map (λ i. get_or (slot_held s) i []) place
found_by_row s q p place e =
    found_at_position q p (slot_held s) place
    (sym (e ∙ (ap (position (λ row. span_contains (row_span row) q p)) (held_rows s) ∙ covering_row q p (slot_held s))))

pub met_by_row :
    (s : SlotStore) (span : Span) → list_any (λ row. spans_meet (row_span row) span) (take s.used (slot_rows s)) ≡ any_meets span (slot_held s)
met_by_row s span = ap (list_any (λ row. spans_meet (row_span row) span)) (held_rows s) ∙ meeting_row span (slot_held s)

pub below_by_row :
    (s : SlotStore) (q n from : ℕ) → from ≤ s.used →
    position (λ row. not (span_is_kept (row_span row) q n)) (take (s.used - from) (drop from (slot_rows s)))
    ≡ position (λ r. not (stays q n r)) (drop from (slot_held s))
below_by_row s q n from h =
    let p = λ (row : Row). not (span_is_kept (row_span row) q n) in
    let k : from + (s.used - from) ≡ s.used = omega arith in
    ap (position p) (sym (drop-take from (s.used - from) (slot_rows s)) ∙ (ap (λ m. drop from (take m (slot_rows s))) k ∙ (ap (drop from) (held_rows s) ∙ drop-map row_of from (slot_held s))))
    ∙ row_below q n (drop from (slot_held s))

-- Changes.

-- other areas, rows and numbers in use, of the same lengths, with these records held
pub record Becomes (s : SlotStore) (area : List ℕ) (rows : List Row) (used : ℕ) (held : List Bytes) : Type 0 where
  pub sound : SoundSlots area rows (slot_space (length area) (length rows)) used
  pub shows : in_slots used rows area ≡ held
  pub bytes : length area ≡ length (slot_area s)
  pub count : length rows ≡ length (slot_rows s)
  pub past : drop (slot_size * slot_count s) area ≡ drop (slot_size * slot_count s) (slot_area s)
  pub others : drop (slot_count s) rows ≡ drop (slot_count s) (slot_rows s)

becomes :
    (s : SlotStore) (area : List ℕ) (rows : List Row) (used u : ℕ) (held : List Bytes) → used ≡ u →
    length area ≡ length (slot_area s) → length rows ≡ length (slot_rows s) →
    Holds held area (drop (slot_size * slot_count s) (slot_area s)) rows (drop (slot_count s) (slot_rows s)) (slot_count s) u →
    Becomes s area rows used held
becomes s area rows used u held e la lr m =
    let n : slot_space (length area) (length rows) ≡ slot_count s = rw (la, lr) in
    record {
      sound = rw (n, e) m.sound;
      shows = rw e m.held;
      bytes = la;
      count = lr;
      past = m.past;
      others = m.others;
    }

pub put_store :
    (s : SlotStore) (area : List ℕ) (rows : List Row) (used n : ℕ) (r : Bytes) → is_record r ≡ true →
    spanned (slot_held s) r ≡ false → slot_fits s n ≡ true →
    area ≡ (take (slot_size * s.used) (slot_area s) ++ r) ++ drop (slot_size * s.used + length r) (slot_area s) →
    rows ≡ set (slot_rows s) s.used (row_of r) → used ≡ s.used + 1 →
    length area ≡ length (slot_area s) → length rows ≡ length (slot_rows s) → Becomes s area rows used (slot_held s ++ r ∷ [])
put_store s area rows used n r good free fits e f u la lr =
    becomes s area rows used (s.used + 1) (slot_held s ++ r ∷ []) u la lr
    (appended (slot_area s) area (slot_rows s) rows (slot_count s) s.used r s.sound good free (ltb-true s.used (slot_count s) fits) e f)

pub vacate_store :
    (s : SlotStore) (area : List ℕ) (rows : List Row) (used i : ℕ) → i < s.used →
    area ≡ slot_freed (s.used - 1) (slot_copied (s.used - 1) i (slot_area s)) →
    rows ≡ set (set (slot_rows s) i (get_or (slot_rows s) (s.used - 1) free_row)) (s.used - 1) free_row → used ≡ s.used - 1 →
    length area ≡ length (slot_area s) → length rows ≡ length (slot_rows s) →
    Becomes s area rows used (swap_remove (slot_held s) i [])
vacate_store s area rows used i h e f u la lr =
    becomes s area rows used (s.used - 1) (swap_remove (slot_held s) i []) u la lr
    (vacated (slot_area s) (slot_copied (s.used - 1) i (slot_area s)) area (slot_rows s) rows (slot_count s) s.used i (s.used - 1) s.sound
    (omega arith) (omega arith) refl e f)

pub store_kept : (s t : SlotStore) (held : List Bytes) → Becomes s (slot_area t) (slot_rows t) t.used held → Kept s t
store_kept s t held m =
    let la = m.bytes in
    let lr = m.count in
    let n : slot_count t ≡ slot_count s = rw (la, lr) in
    record {
      slots = n;
      area =
          t.sound.bytes ∙ (ap (λ k. slots_of k (slot_held t) ++ drop (slot_size * k) (slot_area t)) n ∙ ap (λ z. slots_of (slot_count s) (slot_held t) ++ z) m.past);
      rows =
          t.sound.told ∙ (ap (λ k. rows_of k (slot_held t) ++ drop k (slot_rows t)) n ∙ ap (λ z. rows_of (slot_count s) (slot_held t) ++ z) m.others);
      fitting = λ k. ap (λ u. ltb u (slot_count t)) (sym (length-slot_held t)) ∙ ap (ltb (length (slot_held t))) n;
    }

-- nothing is changed
pub same_kept : (s : SlotStore) → Kept s s
same_kept s =
    store_kept s s (slot_held s) (record { sound = s.sound; shows = refl; bytes = refl; count = refl; past = refl; others = refl })

-- what two calls leave, one after another
pub kept-trans : (a b c : SlotStore) → Kept a b → Kept b c → Kept a c
kept-trans a b c k m =
    let n = slot_count a in
    let rs = slot_held b in
    let few : length rs ≤ n = omega (arith, length-slot_held b, b.sound.few, k.slots) in
    let d : drop (slot_size * n) (slot_area b) ≡ drop (slot_size * n) (slot_area a) =
    ap (drop (slot_size * n)) k.area ∙ drop_at (slots_of n rs) (drop (slot_size * n) (slot_area a)) (slot_size * n) (length-slots_of n rs b.sound.good few) in
    let g : drop n (slot_rows b) ≡ drop n (slot_rows a) =
    ap (drop n) k.rows ∙ drop_at (rows_of n rs) (drop n (slot_rows a)) n (length-rows_of n rs few) in
    record {
      slots = m.slots ∙ k.slots;
      area =
          m.area ∙ (ap (λ j. slots_of j (slot_held c) ++ drop (slot_size * j) (slot_area b)) k.slots ∙ ap (λ z. slots_of n (slot_held c) ++ z) d);
      rows =
          m.rows ∙ (ap (λ j. rows_of j (slot_held c) ++ drop j (slot_rows b)) k.slots ∙ ap (λ z. rows_of n (slot_held c) ++ z) g);
      fitting = λ j. m.fitting j ∙ ap (ltb (length (slot_held c))) k.slots;
    }
