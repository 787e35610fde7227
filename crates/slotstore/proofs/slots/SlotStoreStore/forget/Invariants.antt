use Rattle.std.proofs.Common.{◌≡◌, ◌-◌, ◌≤◌, ◌++◌, length, take, drop}
use Rattle.store.specs.Meaning.{stays}
use Rattle.slotstore.specs.Slots.{swept}
use Rattle.slotstore.specs.SlotStores.{slot_held, Kept}
use Rattle.slotstore.proofs.slots.SlotStoreStore.forget.Given as goal

abbrev pub invariant-loop-index : goal.invariant-loop-index
invariant-loop-index l =
    let p = stays l.queue l.below in
    let rs = slot_held l.self in
    record {
      kept : Kept l.fn.self l.self;
      rest : take l.from rs ++ swept (length rs - l.from) p (drop l.from rs) ≡ swept (length (slot_held l.fn.self)) p (slot_held l.fn.self);
      within : l.from ≤ l.self.used;
    }

abbrev pub decreases-loop-index : goal.decreases-loop-index
decreases-loop-index l = l.self.used - l.from
