use Rattle.std.proofs.Common.{◌≡◌, ◌-◌, ◌∙◌, arith, rules}
use Rattle.std.specs.Prelude.{sum_by}
use lib.Count as count
use Rattle.bank.proofs.TallyLaws.{sum_by-zeros}
use Rattle.bank.proofs.tally.count_zeros.Goals as goal

pub returns : goal.returns
returns c =
    let counted : c.sum.result ≡ sum_by (λ b. count.ones (255 - b)) c.args.region.now = search rules in
    record { answers = counted ∙ sum_by-zeros c.args.region.now (λ k _. omega (arith, c.type_inv.region k)) }
