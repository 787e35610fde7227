-- One slot among others: its bytes, what stands before it, and what follows.
use Rattle.std.proofs.Common.{◌≡◌, ℕ, ◌+◌, ◌-◌, ◌*◌, ◌<◌, List, [], ◌∷◌, ◌++◌, length, get_or, take, drop, replicate, sym, refl, ap, ◌∙◌, append_assoc, arith}
use Rattle.std.proofs.lemmas.List.{drop_at, drop-drop, drop_more, length-take-le, take-append-drop, take_at}
use Rattle.store.specs.Meaning.{Bytes, Records}
use Rattle.store.proofs.Sets.{records_take, record_at}
use Rattle.slotstore.specs.Slots.{slot_size, padded, slotted, slot_copied}
use Rattle.slotstore.proofs.Images.{length-padded, length-slotted, slotted-append}

-- a list as what stands before a place, the element there, and what follows
pub split_at : {X : Type 0} (xs : List X) (k : ℕ) (d : X) → k < length xs → xs ≡ take k xs ++ get_or xs k d ∷ drop (k + 1) xs
split_at xs k d h = sym (take-append-drop k xs) ∙ ap (λ z. take k xs ++ z) (drop_more xs k d h)

module _ (rs : List Bytes) (zs : List ℕ) (k : ℕ) (within : k < length rs) (good : Records rs) where
  pub slots-split :
      slotted rs ++ zs ≡ slotted (take k rs) ++ (padded (get_or rs k []) ++ (slotted (drop (k + 1) rs) ++ zs))
  slots-split =
      ap (λ z. slotted z ++ zs) (split_at rs k [] within)
      ∙ (ap (λ z. z ++ zs) (slotted-append (take k rs) (get_or rs k [] ∷ drop (k + 1) rs))
      ∙ (append_assoc (slotted (take k rs)) (padded (get_or rs k []) ++ slotted (drop (k + 1) rs)) zs
      ∙ ap (λ z. slotted (take k rs) ++ z) (append_assoc (padded (get_or rs k [])) (slotted (drop (k + 1) rs)) zs)))

  length_before : length (slotted (take k rs)) ≡ slot_size * k
  length_before = length-slotted (take k rs) (records_take k rs good) ∙ ap (λ n. slot_size * n) (length-take-le k rs (omega arith))

  length-here : length (padded (get_or rs k [])) ≡ slot_size
  length-here = length-padded (get_or rs k []) (record_at rs k within good)

  pub before-slot : take (slot_size * k) (slotted rs ++ zs) ≡ slotted (take k rs)
  before-slot = ap (take (slot_size * k)) slots-split ∙ take_at (slotted (take k rs)) _ (slot_size * k) length_before

  from-slot : drop (slot_size * k) (slotted rs ++ zs) ≡ padded (get_or rs k []) ++ (slotted (drop (k + 1) rs) ++ zs)
  from-slot = ap (drop (slot_size * k)) slots-split ∙ drop_at (slotted (take k rs)) _ (slot_size * k) length_before

  pub slot-bytes : take slot_size (drop (slot_size * k) (slotted rs ++ zs)) ≡ padded (get_or rs k [])
  slot-bytes = ap (take slot_size) from-slot ∙ take_at (padded (get_or rs k [])) _ slot_size length-here

  pub record-bytes : take (length (get_or rs k [])) (drop (slot_size * k) (slotted rs ++ zs)) ≡ get_or rs k []
  record-bytes =
      let r = get_or rs k [] in
      ap (take (length r)) (from-slot ∙ append_assoc r (replicate (slot_size - length r) 0) (slotted (drop (k + 1) rs) ++ zs))
      ∙ take_at r (replicate (slot_size - length r) 0 ++ (slotted (drop (k + 1) rs) ++ zs)) (length r) refl

  pub after-slot : drop (slot_size * k + slot_size) (slotted rs ++ zs) ≡ slotted (drop (k + 1) rs) ++ zs
  after-slot =
      sym (drop-drop slot_size (slot_size * k) (slotted rs ++ zs))
      ∙ (ap (drop slot_size) from-slot ∙ drop_at (padded (get_or rs k [])) _ slot_size length-here)

  -- another record written over the slot
  pub slot-written :
      (y : Bytes) →
      (take (slot_size * k) (slotted rs ++ zs) ++ padded y) ++ drop (slot_size * k + slot_size) (slotted rs ++ zs)
      ≡ slotted (take k rs ++ y ∷ drop (k + 1) rs) ++ zs
  slot-written y =
      ap (λ z. (z ++ padded y) ++ drop (slot_size * k + slot_size) (slotted rs ++ zs)) before-slot
      ∙ (ap (λ z. (slotted (take k rs) ++ padded y) ++ z) after-slot
      ∙ (append_assoc (slotted (take k rs)) (padded y) (slotted (drop (k + 1) rs) ++ zs)
      ∙ (ap (λ z. slotted (take k rs) ++ z) (sym (append_assoc (padded y) (slotted (drop (k + 1) rs)) zs))
      ∙ (sym (append_assoc (slotted (take k rs)) (padded y ++ slotted (drop (k + 1) rs)) zs)
      ∙ ap (λ z. z ++ zs) (sym (slotted-append (take k rs) (y ∷ drop (k + 1) rs)))))))

-- a slot copied over itself
pub copied_in_place : (from to : ℕ) (area : List ℕ) → to ≡ from → slot_copied from to area ≡ area
copied_in_place from to area e =
    let at = slot_size * to in
    ap (λ k. slot_copied k to area) (sym e)
    ∙ (append_assoc (take at area) (take slot_size (drop at area)) (drop (at + slot_size) area)
    ∙ (ap (λ z. take at area ++ (take slot_size (drop at area) ++ z)) (sym (drop-drop slot_size at area))
    ∙ (ap (λ z. take at area ++ z) (take-append-drop slot_size (drop at area)) ∙ take-append-drop at area)))
