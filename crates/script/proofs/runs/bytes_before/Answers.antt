use Rattle.std.proofs.Common.{ℕ, rules, tests, ◌∙◌}
use Rattle.std.specs.Prelude.{not, ◌==◌}
use Rattle.std.proofs.lemmas.Iterator.{YieldsList-from_slice}
use Rattle.std.proofs.lemmas.Iterator.Consumers.{count_from_yields_List}
use Rattle.std.proofs.lemmas.Iterator.Search.{YieldsList-from_take_while}
use Rattle.std.proofs.lemmas.List.Folds.{length-prefix_len}
use Rattle.script.proofs.runs.bytes_before.Goals as goal

pub returns-clause-answers : goal.returns-clause-answers
returns-clause-answers c =
    let text = c.args.text.now in
    let other = λ (x : ℕ). not (x == c.args.mark) in
    count_from_yields_List
    c.take_while.result
    _
    c.count.ensures.ran
    (YieldsList-from_take_while _ other (YieldsList-from_slice text cc) c.take_while.ensures.closure c.take_while.ensures.done (λ x b q k. search (rules, tests)))
    ∙ length-prefix_len other text
