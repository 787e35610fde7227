use Rattle.std.proofs.Common.{arith}
use Rattle.slotstore.proofs.Stores.{vacate_store, store_kept}
use Rattle.slotstore.proofs.slots.SlotStore.vacate.Goals as goal

pub invariant_of-self : goal.invariant_of-self
invariant_of-self c =
    let m = vacate_store c.args.self.now _ _ _ c.args.index c.requires c.move_last.ensures.area c.move_last.ensures.rows c.move_last.ensures.used (omega arith) (omega arith) in
    record { sound = m.sound }

pub returns : goal.returns
returns c =
    let m = vacate_store c.args.self.now _ _ _ c.args.index c.requires c.move_last.ensures.area c.move_last.ensures.rows c.move_last.ensures.used (omega arith) (omega arith) in
    record { becomes = m.shows; fewer = omega arith; keeps = store_kept c.args.self.now _ _ m }
