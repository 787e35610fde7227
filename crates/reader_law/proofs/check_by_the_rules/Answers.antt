use Rattle.std.proofs.Common.{sym, ap, ◌∙◌, rules}
use Rattle.reader_law.specs.Refusals.{refusal_number}
use Rattle.reader_law.proofs.Parts.{Below}
use Rattle.reader_law.proofs.Outcomes.{first_from_number, number_from_first}
use Rattle.reader_law.proofs.Law.{right_from_accepted, accepted_from_right}
use Rattle.reader_law.proofs.check_by_the_rules.Goals as goal

pub returns-clause-accepts : goal.returns-clause-accepts
returns-clause-accepts c v h =
    let below : Below c.args.answer.now = λ k. search rules in
    right_from_accepted _ _ _ _ _ v below (sym c.check.ensures.answers ∙ h)

pub returns-clause-only : goal.returns-clause-only
returns-clause-only c v h = c.check.ensures.answers ∙ accepted_from_right _ _ _ _ _ v h

pub returns-clause-refuses : goal.returns-clause-refuses
returns-clause-refuses c rule h = first_from_number _ _ _ _ _ rule (sym (ap refusal_number c.check.ensures.answers) ∙ h)

pub returns-clause-first : goal.returns-clause-first
returns-clause-first c rule h = ap refusal_number c.check.ensures.answers ∙ number_from_first _ _ _ _ _ rule h
