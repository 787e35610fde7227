use Rattle.std.proofs.Common.{refl, ◌∙◌, arith}
use Rattle.std.proofs.lemmas.Grind.{common_steps}
use Rattle.store.proofs.Puts.{admitted, refused}
use Rattle.logstore.specs.LogStores.{log_held}
use Rattle.logstore.proofs.calls.LogStoreStore.put.Goals as goal
use Rattle.logstore.proofs.calls.LogStoreStore.put.Goals.{then-is_valid, else-is_valid}

pub append-requires : goal.append-requires
append-requires c =
    let m =
    admitted _ (log_held c.args.self.now) _ c.from-parsed.ensures refl refl c.takes.ensures.answers
    (elim c.if-is_valid.branch [ then-is_valid w ↦ grind (arith, common_steps) | else-is_valid w ↦ grind (arith, common_steps) ]) in
    record { good = m.good; free = m.free; fits = m.fitting }

pub returns-in_err-admit-clause-answers : goal.returns-in_err-admit-clause-answers
returns-in_err-admit-clause-answers c =
    let m =
    refused _ (log_held c.args.self.now) _ c.from-parsed.ensures refl refl c.takes.ensures.answers c.in_err-admit.field-0.0
    (elim c.if-is_valid.branch [ then-is_valid w ↦ grind (arith, common_steps) | else-is_valid w ↦ grind (arith, common_steps) ]) in
    rw (← m.answers) (grind (arith, common_steps))

pub returns-in_err-admit-clause-becomes : goal.returns-in_err-admit-clause-becomes
returns-in_err-admit-clause-becomes c =
    (refused _ (log_held c.args.self.now) _ c.from-parsed.ensures refl refl c.takes.ensures.answers c.in_err-admit.field-0.0
    (elim c.if-is_valid.branch [ then-is_valid w ↦ grind (arith, common_steps) | else-is_valid w ↦ grind (arith, common_steps) ])).becomes

pub returns-clause-answers : goal.returns-clause-answers
returns-clause-answers c =
    (admitted _ (log_held c.args.self.now) _ c.from-parsed.ensures refl refl c.takes.ensures.answers
    (elim c.if-is_valid.branch [ then-is_valid w ↦ grind (arith, common_steps) | else-is_valid w ↦ grind (arith, common_steps) ])).answers

pub returns-clause-becomes : goal.returns-clause-becomes
returns-clause-becomes c =
    let m =
    admitted _ (log_held c.args.self.now) _ c.from-parsed.ensures refl refl c.takes.ensures.answers
    (elim c.if-is_valid.branch [ then-is_valid w ↦ grind (arith, common_steps) | else-is_valid w ↦ grind (arith, common_steps) ]) in
    c.append.ensures.becomes ∙ m.becomes
