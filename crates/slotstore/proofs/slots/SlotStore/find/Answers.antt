use Rattle.std.proofs.Common.{◌≡◌, Some, None, sym, ap, ◌∙◌, rules}
use Rattle.slotstore.proofs.Stores.{found_by_row}
use Rattle.slotstore.proofs.slots.SlotStore.find.Goals as goal

pub returns-in_err-index-clause-answers : goal.returns-in_err-index-clause-answers
returns-in_err-index-clause-answers c =
    let none : c.from_residual.result ≡ None = search rules in
    rw none (sym (found_by_row c.args.self.now c.args.queue c.args.position None c.in_err-index.ensures.answers))

pub returns-clause-answers : goal.returns-clause-answers
returns-clause-answers c =
    ap Some c.record.ensures.answers
    ∙ sym (found_by_row c.args.self.now c.args.queue c.args.position (Some c.in_ok-index.index) c.in_ok-index.ensures.answers)
