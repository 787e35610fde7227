use Rattle.std.proofs.Common.{◌≡◌, ◌+◌, ◌*◌, get_or, drop, fold, sym, ap, ◌∙◌, arith}
use Rattle.std.proofs.lemmas.List.{at_drop_more, at_drop_all}
use Rattle.script.specs.Numbers.{digit_more}
use Rattle.script.proofs.Numbers.{more_digits, no_number, too_large, small_enough}
use Rattle.script.proofs.number.number.Goals as goal

pub returns-then-not-digits_only : goal.returns-then-not-digits_only
returns-then-not-digits_only c =
    record { answers = no_number c.args.word.now c.args.most (sym c.if-not-digits_only.ensures.answers) }

pub returns-then-value-most : goal.returns-then-value-most
returns-then-value-most c =
    let e =
    at_drop_more (fold digit_more c.loop-c.value) c.args.word.now c.loop-c.c-index 0 c.loop-c-test.true in
    let v : 10 * c.loop-c.value + c.saturating_sub-digit.result ≡ digit_more c.loop-c.value (get_or c.args.word.now c.loop-c.c-index 0) =
    ap (λ d. 10 * c.loop-c.value + d) c.saturating_sub-digit.ensures in
    let f = ap (λ n. fold digit_more n (drop (c.loop-c.c-index + 1) c.args.word.now)) v ∙ sym e ∙ c.loop-c.invariant.1 in
    let g = more_digits (10 * c.loop-c.value + c.saturating_sub-digit.result) (drop (c.loop-c.c-index + 1) c.args.word.now) in
    record {
      answers = too_large c.args.word.now c.args.most (sym c.if-not-digits_only.ensures.answers) (omega arith);
    }

pub loop-c-preserved : goal.loop-c-preserved
loop-c-preserved c =
    let e =
    at_drop_more (fold digit_more c.loop-c.value) c.args.word.now c.loop-c.c-index 0 c.loop-c-test.true in
    let v : 10 * c.loop-c.value + c.saturating_sub-digit.result ≡ digit_more c.loop-c.value (get_or c.args.word.now c.loop-c.c-index 0) =
    ap (λ d. 10 * c.loop-c.value + d) c.saturating_sub-digit.ensures in
    let f = ap (λ n. fold digit_more n (drop (c.loop-c.c-index + 1) c.args.word.now)) v ∙ sym e ∙ c.loop-c.invariant.1 in
    (c.if-value-most.false, f)

pub returns : goal.returns
returns c =
    let e = at_drop_all (fold digit_more c.loop-c.value) c.args.word.now c.loop-c.c-index c.loop-c-test.false in
    record {
      answers =
          small_enough
          c.args.word.now
          c.args.most
          c.loop-c.value
          (sym c.if-not-digits_only.ensures.answers)
          (sym e ∙ c.loop-c.invariant.1)
          c.loop-c.invariant.0;
    }
