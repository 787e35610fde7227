use Rattle.std.proofs.Common.{rules, tests, ◌++◌, length, get_or, vec_items, Some, ap, ◌∙◌}
use Rattle.std.specs.Prelude.{◌==◌}
use Rattle.std.specs.Slice.Iter.{chunk_by_rest}
use Rattle.std.proofs.lemmas.Fn.{always_returns_same}
use Rattle.script.specs.Shown.{stretches, shown_from, separator, run_text, form_of}
use Rattle.script.proofs.Stretches.{shown_part, laid}
use Rattle.script.proofs.show.show_bytes.Goals as goal

pub loop-run-preserved : goal.loop-run-preserved
loop-run-preserved c =
    let before = c.loop-run.before in
    let run = c.in-Some.run'.now in
    let form = form_of (length run) in
    let rest = chunk_by_rest c.next.new.self in
    let step = c.in-Some.ensures.steps in
    let front = step.2 (λ b d. b == d) (always_returns_same _ _ _ (λ a r f' k. search (rules, tests))) in
    let text =
    laid
    (vec_items c.loop-run.out)
    (vec_items c.push_separator.new.out)
    (vec_items c.push_run.new.out)
    (separator before form)
    (run_text form (get_or run 0 0) (length run))
    (shown_from (Some form) (stretches rest))
    (shown_from before (stretches (chunk_by_rest c.loop-run.run-iterator)))
    (rw c.of-form.ensures.answers at c.in_ok-push_separator.ensures.area)
    (rw c.of-form.ensures.answers at c.in_ok-push_run.ensures.area)
    (shown_part before (chunk_by_rest c.loop-run.run-iterator) run rest step.0 step.1 front.1) in
    ap (λ f. vec_items c.push_run.new.out ++ shown_from (Some f) (stretches rest)) c.of-form.ensures.answers
    ∙ text
    ∙ c.loop-run.invariant
