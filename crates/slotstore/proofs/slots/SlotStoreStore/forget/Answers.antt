use Rattle.std.proofs.Common.{◌≡◌, ◌+◌, ◌-◌, ◌≤◌, length, refl, ap, ◌∙◌, arith}
use Rattle.store.specs.Meaning.{stays}
use Rattle.slotstore.specs.Slots.{swept}
use Rattle.slotstore.specs.SlotStores.{slot_held}
use Rattle.slotstore.proofs.Stores.{length-slot_held, same_kept, kept-trans}
use Rattle.slotstore.proofs.Sweeps.{next_place, swept_next, swept_done}
use Rattle.slotstore.proofs.slots.SlotStoreStore.forget.Goals as goal

pub loop-index-init : goal.loop-index-init
loop-index-init c =
    let s = c.args.self.now in
    let n : length (slot_held s) - 0 ≡ length (slot_held s) = omega arith in
    record { kept = same_kept s; rest = ap (λ k. swept k (stays c.args.queue c.args.below) (slot_held s)) n; within = omega arith }

pub vacate-requires : goal.vacate-requires
vacate-requires c =
    let s = c.loop-index.self in
    let m = next_place (stays c.args.queue c.args.below) (slot_held s) c.loop-index.from c.in-Some.index _ refl c.in-Some.ensures.answers in
    omega (arith, m.inside, length-slot_held s)

pub loop-index-smaller : goal.loop-index-smaller
loop-index-smaller c =
    let s = c.loop-index.self in
    let m = next_place (stays c.args.queue c.args.below) (slot_held s) c.loop-index.from c.in-Some.index _ refl c.in-Some.ensures.answers in
    omega (arith, m.above, m.inside, length-slot_held s, c.vacate.ensures.fewer)

pub loop-index-preserved : goal.loop-index-preserved
loop-index-preserved c =
    let s = c.loop-index.self in
    let t = c.vacate.new.self in
    let p = stays c.args.queue c.args.below in
    let m = next_place p (slot_held s) c.loop-index.from c.in-Some.index _ refl c.in-Some.ensures.answers in
    let fewer = c.vacate.ensures.fewer in
    let n : length (slot_held s) ≡ length (slot_held t) + 1 = omega (arith, length-slot_held s, length-slot_held t, fewer) in
    record {
      kept = kept-trans c.args.self.now s t c.loop-index.invariant.kept c.vacate.ensures.keeps;
      rest = swept_next p (slot_held s) (slot_held t) c.loop-index.from c.in-Some.index m c.vacate.ensures.becomes n ∙ c.loop-index.invariant.rest;
      within = omega (arith, m.inside, length-slot_held s, fewer);
    }

pub returns : goal.returns
returns c =
    let s = c.loop-index.self in
    let within : c.loop-index.from ≤ length (slot_held s) = omega (arith, length-slot_held s, c.loop-index.invariant.within) in
    let m = swept_done (stays c.args.queue c.args.below) (slot_held c.args.self.now) (slot_held s) c.loop-index.from _ within refl c.in_default.ensures.answers c.loop-index.invariant.rest in
    record { becomes = m.stays; order = m.order; slots = c.loop-index.invariant.kept }
