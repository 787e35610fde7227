use Rattle.std.proofs.Common.{◌≡◌, ◌+◌, true, length, drop, refl, ◌∙◌, append_assoc, arith}
use Rattle.std.proofs.lemmas.Bool.Decides.{nat_tests}
use Rattle.statement.proofs.Layouts.{four_bytes}
use Rattle.notice.specs.Limits.{input_head}
use Rattle.notice.specs.Input.{digest_input, has_input_room}
use Rattle.notice.proofs.Behind.{drop_behind, one_set}
use Rattle.notice.proofs.Inputs.{input_determines}
use Rattle.notice.proofs.input.write_input.Goals as goal

pub returns-in_err-length-clause-determines : goal.returns-in_err-length-clause-determines
returns-in_err-length-clause-determines c = input_determines c.args.span.now c.args.previous.now c.args.text.now (omega arith)

pub returns : goal.returns
unfolding digest_input
returns c =
    let t = c.args.text.now in
    let a = c.args.area.now in
    let n = length t in
    let room : has_input_room n (length a) ≡ true = grind (arith, nat_tests) in
    let behind : drop n c.split_at_mut-digest.result.1.now ≡ drop (input_head + n) a =
    rw (c.split_at_mut-digest.ensures.back, c.split_at_mut-new.ensures.back, c.split_at_mut-old.ensures.back, c.split_at_mut-lane.ensures.back) (
    drop_behind 32 n (32 + n) _ refl
    ∙ (drop_behind 4 (32 + n) (36 + n) _ (omega arith)
    ∙ (drop_behind 4 (36 + n) (40 + n) _ (omega arith) ∙ drop_behind 1 (40 + n) (input_head + n) a (omega arith)))
    ) in
    let old = c.to_be_bytes.ensures ∙ four_bytes c.args.span.now.old (omega arith) in
    let new = c.to_be_bytes-2.ensures ∙ four_bytes c.args.span.now.new (omega arith) in
    record {
      answers = grind (arith, nat_tests);
      area =
          rw (
            room,
            behind,
            one_set c.split_at_mut-lane.result.0.now c.args.span.now.lane (omega arith),
            c.copy_from_slice.ensures.after,
            c.copy_from_slice-2.ensures.after,
            c.copy_from_slice-3.ensures.after,
            c.copy_from_slice-4.ensures.after,
            old,
            new,
          ) (simp append_assoc);
      determines = input_determines c.args.span.now c.args.previous.now c.args.text.now (omega arith);
    }
