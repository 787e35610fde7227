use Rattle.std.proofs.Common.{◌≡◌, ◌+◌, ◌-◌, ◌*◌, length, take, drop, get_or, ap, ◌∙◌, arith, rules}
use Rattle.slotstore.specs.Slots.{slot_size}
use Rattle.slotstore.specs.Rows.{free_row}
use Rattle.slotstore.specs.SlotStores.{slot_area, slot_rows}
use Rattle.slotstore.proofs.Stores.{told_record}
use Rattle.slotstore.proofs.slots.SlotStore.record.Goals as goal

pub overflow_add-result : goal.overflow_add-result
overflow_add-result c = let t = told_record c.args.self.now c.args.index c.requires in omega (arith, t.size, t.short, t.place)

pub slice_bounds-result-end : goal.slice_bounds-result-end
slice_bounds-result-end c = let w = (told_record c.args.self.now c.args.index c.requires).within in search rules

pub returns : goal.returns
returns c =
    let s = c.args.self.now in
    let t = told_record s c.args.index c.requires in
    let at = slot_size * c.args.index in
    let n = (get_or (slot_rows s) c.args.index free_row).length in
    let k : (at + n) - at ≡ n = omega arith in
    let e = ap (λ m. take m (drop at (slot_area s))) k ∙ t.bytes in
    record { answers = e; short = omega (arith, ap length e, t.short) }
