use Rattle.std.proofs.Common.{◌≡◌, ℕ, ◌+◌, ◌-◌, ◌≤◌, List, length, take, drop, sym, ap, ◌∙◌, subst, rules, tests, arith}
use Rattle.std.proofs.lemmas.List.{take_rest}
use Rattle.logstore.specs.declared.types.Extent.{Extent}
use Rattle.store.specs.Meaning.{stays}
use Rattle.logstore.specs.Log.{length_size, framed, size_at, first}
use Rattle.logstore.proofs.Compacting.{Compacting, compacting-skips, compacting-keeps, compacting_all, next_inside}
use Rattle.logstore.proofs.edit.compact.Goals as goal
use Rattle.logstore.proofs.edit.compact.Goals.{then-is_kept, else-is_kept}

pub split_first_record-requires : goal.split_first_record-requires
split_first_record-requires c =
    let l = c.loop in
    record {
      inside =
          subst (λ z. length_size + size_at z ≤ length z) (sym (take_rest l.area l.at))
          (next_inside _ c.args.area.now c.args.held.count l.area l.at l.kept.used l.kept.count _ l.invariant (omega arith));
    }

pub loop-preserved : goal.loop-preserved
unfolding stays
loop-preserved c =
    let l = c.loop in
    let e = take_rest l.area l.at in
    let f = c.split_first_record.ensures in
    let r = c.split_first_record.result.0.now in
    let is : r ≡ first (drop l.at l.area) = f.first ∙ ap first e in
    let size : length r ≡ size_at (drop l.at l.area) = ap length f.first ∙ (f.size ∙ ap size_at e) in
    let bytes : framed r ≡ take (length_size + length r) (drop l.at l.area) =
    ap framed f.first ∙ (f.framed ∙ (ap (λ z. take (length_size + size_at z) z) e ∙ ap (λ n. take (length_size + n) (drop l.at l.area)) (sym size))) in
    let kept : c.is_kept.result ≡ stays c.args.queue c.args.below r = search (rules, tests) in
    let less : c.args.held.count - l.counter - 1 ≡ c.args.held.count - (l.counter + 1) = omega arith in
    let G : List ℕ → Extent → Type 0 =
    λ area kept.
    Compacting (stays c.args.queue c.args.below) c.args.area.now c.args.held.count area (l.at + (length_size + length r))
    kept.used kept.count (c.args.held.count - (l.counter + 1)) in
    elim c.if-is_kept.branch [
      | then-is_kept w ↦
          subst (λ area. G area c.if-is_kept.kept) (sym w.area-is)
          (subst (G w.move_down.new.area) (sym (w.kept-is ∙ w.with-kept.ensures.answers))
          (subst (Compacting (stays c.args.queue c.args.below) c.args.area.now c.args.held.count w.move_down.new.area (l.at + (length_size + length r)) (l.kept.used + (length_size + length r)) (l.kept.count + 1)) less
          (compacting-keeps _ _ _ l.area l.at l.kept.used l.kept.count _ l.invariant (omega arith) r is size
          w.move_down.new.area ((l.at + (length_size + length r)) - l.at) (sym kept ∙ w.if-is_kept.true) bytes (omega arith) w.move_down.ensures.area)))
      | else-is_kept w ↦
          subst (λ area. G area c.if-is_kept.kept) (sym w.area-is)
          (subst (G l.area) (sym w.kept-is)
          (subst (Compacting (stays c.args.queue c.args.below) c.args.area.now c.args.held.count l.area (l.at + (length_size + length r)) l.kept.used l.kept.count) less
          (compacting-skips _ _ _ l.area l.at l.kept.used l.kept.count _ l.invariant (omega arith) r is size (sym kept ∙ w.if-is_kept.false))))
    ]

pub returns : goal.returns
returns c =
    let l = c.loop in
    let z : c.args.held.count - l.counter ≡ 0 = omega arith in
    let e =
    compacting_all (stays c.args.queue c.args.below) c.args.area.now c.args.held.count l.area c.fill.new.self l.at l.kept.used l.kept.count c.args.held.used
    (subst (Compacting (stays c.args.queue c.args.below) c.args.area.now c.args.held.count l.area l.at l.kept.used l.kept.count) z l.invariant)
    c.requires.reach (search rules) in
    record { area = e.0; used = e.1; count = e.2; less = e.3 }
