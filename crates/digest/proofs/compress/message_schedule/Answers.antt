use Rattle.std.proofs.Common.{◌≡◌, ◌-◌, sym, ap, ◌∙◌, arith, take_at, length-set, length-append}
use Rattle.std.proofs.lemmas.List.{take_all}
use Rattle.digest.specs.Sha256.{extended, schedule}
use Rattle.digest.proofs.Schedule.{extended_more}
use Rattle.digest.proofs.compress.message_schedule.Goals as goal

pub loop-t-init : goal.loop-t-init
unfolding extended
loop-t-init c = record { size = simp length-append (omega (arith, c.copy_from_slice.ensures.len)); from = omega arith; made = take_at c.copy_from_slice.new.self _ 16 c.copy_from_slice.ensures.len ∙ c.copy_from_slice.ensures.after }

pub loop-t-preserved : goal.loop-t-preserved
loop-t-preserved c =
    let more = extended_more c.args.block c.loop-t.w c.loop-t.t c.loop-t.invariant.from (omega arith) c.loop-t.invariant.made in
    record { size = length-set c.loop-t.w c.loop-t.t _ ∙ c.loop-t.invariant.size; from = omega arith; made = simp (c.small_sigma1.ensures.answers, c.small_sigma0.ensures.answers) more }

pub returns : goal.returns
unfolding schedule
returns c =
    let n : c.loop-t.t - 16 ≡ 48 = omega arith in
    record {
      answers = sym (take_all c.loop-t.t c.loop-t.w (omega arith)) ∙ c.loop-t.invariant.made ∙ ap (λ k. extended k c.args.block) n;
    }
