use Rattle.std.proofs.Common.{◌≡◌, ◌+◌, None, ap, ◌∙◌, rules}
use Rattle.std.specs.Option.{option_map}
use Rattle.slotstore.proofs.Stores.{below_by_row}
use Rattle.slotstore.proofs.slots.SlotStore.next_below.Goals as goal

pub returns-in_err-ahead : goal.returns-in_err-ahead
returns-in_err-ahead c =
    let none : c.from_residual.result ≡ None = search rules in
    let e : None ≡ _ = c.in_err-ahead.ensures.answers ∙ below_by_row c.args.self.now c.args.queue c.args.below c.args.from c.requires in
    record { answers = none ∙ ap (option_map (λ k. c.args.from + k)) e }

pub returns : goal.returns
returns c =
    record { answers = ap (option_map (λ k. c.args.from + k)) (c.in_ok-ahead.ensures.answers ∙ below_by_row c.args.self.now c.args.queue c.args.below c.args.from c.requires) }
