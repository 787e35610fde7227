use Rattle.std.proofs.Common.{◌≡◌, ◌+◌, ◌-◌, ◌*◌, length, take, drop, replicate, sym, ap, ◌∙◌, append_assoc, arith}
use Rattle.std.proofs.lemmas.List.{drop-drop, length-drop, length-take-le}
use Rattle.slotstore.specs.Slots.{slot_size}
use Rattle.slotstore.proofs.parts.free_slot.Goals as goal

pub returns : goal.returns
returns c =
    let at = slot_size * c.args.index in
    let a = c.args.area.now in
    let k : (at + slot_size) - at ≡ slot_size = omega arith in
    let part : length (take ((at + slot_size) - at) (drop at a)) ≡ slot_size = omega (arith, length-drop at a, length-take-le ((at + slot_size) - at) (drop at a)) in
    let e : c.fill.new.self ≡ replicate slot_size 0 = c.fill.ensures.after (λ y h. h) ∙ ap (λ n. replicate n 0) part in
    record { area = rw (k, e, drop-drop slot_size at a) (sym (append_assoc (take at a) (replicate slot_size 0) (drop (at + slot_size) a))) }
