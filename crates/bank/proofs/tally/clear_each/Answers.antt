use Rattle.std.proofs.Common.{◌≡◌, ◌+◌, ◌-◌, sym, ap, ◌∙◌, arith}
use native.Mathlib.Nat.{sub-zero}
use Rattle.bank.specs.Tally.{cleared}
use Rattle.bank.proofs.ByteLaws.{cleared_step}
use Rattle.bank.proofs.tally.clear_each.Goals as goal

pub loop-init : goal.loop-init
loop-init c = ap (λ m. cleared m c.args.byte) (sub-zero c.args.many)

pub loop-preserved : goal.loop-preserved
loop-preserved c =
    ap (cleared (c.args.many - (c.loop.counter + 1))) c.clear_next-rest.ensures.answers
    ∙ sym (cleared_step c.args.many c.loop.counter c.loop.rest c.loop-test.true) ∙ c.loop.invariant

pub returns : goal.returns
unfolding cleared
returns c =
    let none : c.args.many - c.loop.counter ≡ 0 = omega arith in
    record { answers = sym (ap (λ m. cleared m c.loop.rest) none) ∙ c.loop.invariant }
