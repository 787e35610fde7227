use Rattle.std.proofs.Common.{◌<◌, length, arith}
use Rattle.std.proofs.lemmas.Bool.{ltb-true}
use Rattle.notice.proofs.Records.{record_short}
use Rattle.slotstore.specs.SlotStores.{slot_count}
use Rattle.slotstore.proofs.Stores.{put_store, store_kept}
use Rattle.slotstore.proofs.slots.SlotStore.append.Goals as goal

pub fill_next-requires-clause-part : goal.fill_next-requires-clause-part
fill_next-requires-clause-part c =
    let s = c.args.self.now in
    let h : s.used < slot_count s = ltb-true s.used (slot_count s) c.requires.fits in
    omega (arith, h, record_short c.args.bytes.now c.requires.good, s.sound.enough_bytes)

pub invariant_of-self : goal.invariant_of-self
invariant_of-self c =
    let m = put_store c.args.self.now _ _ _ (length c.args.bytes.now) c.args.bytes.now c.requires.good c.requires.free c.requires.fits c.fill_next.ensures.area c.fill_next.ensures.rows c.fill_next.ensures.used (omega arith) (omega arith) in
    record { sound = m.sound }

pub returns : goal.returns
returns c =
    let m = put_store c.args.self.now _ _ _ (length c.args.bytes.now) c.args.bytes.now c.requires.good c.requires.free c.requires.fits c.fill_next.ensures.area c.fill_next.ensures.rows c.fill_next.ensures.used (omega arith) (omega arith) in
    record { becomes = m.shows; keeps = store_kept c.args.self.now _ _ m }
