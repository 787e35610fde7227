use Rattle.std.proofs.Common.{◌/◌, length, ◌∙◌, arith}
use Rattle.std.specs.Simd.{first_chunks}
use Rattle.std.specs.Slice.Iter.{chunks_exact_rest}
use Rattle.speed.specs.Stores.{Fills}
use Rattle.speed.proofs.Fills.{fills_more, fills_all}
use Rattle.speed.proofs.stores.fill.Goals as goal

pub loop-record-preserved : goal.loop-record-preserved
loop-record-preserved g c =
    let held = g.S.Store.held in
    let l = c.loop-record in
    let size = c.args.size in
    let step = c.in-Some.ensures.steps in
    record {
      size = step.0 ∙ l.invariant.size;
      left =
          fills_more (Fills (held c.args.store.now) (first_chunks size (length c.args.records.now / size) c.args.records.now)) (held l.store) size (chunks_exact_rest l.record-iterator) l.invariant.left
          _ (held c.put.new.self) c.in-Some.record.now (chunks_exact_rest c.next.new.self) (omega arith) step.1.0 (step.1.1 ∙ l.invariant.size) c.put.ensures.becomes;
    }

pub returns : goal.returns
returns g c =
    let held = g.S.Store.held in
    let l = c.loop-record in
    let size = c.args.size in
    record {
      becomes =
          fills_all (Fills (held c.args.store.now) (first_chunks size (length c.args.records.now / size) c.args.records.now)) (held l.store) size (chunks_exact_rest l.record-iterator) l.invariant.left
          (omega (arith, c.in-None.ensures.steps.1.0, l.invariant.size));
    }
