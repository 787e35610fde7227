use Rattle.std.proofs.Common.{◌≡◌, ◌+◌, true, length, drop, refl, ◌∙◌, append_assoc, arith}
use Rattle.std.proofs.lemmas.Bool.Decides.{nat_tests}
use Rattle.notice.specs.Limits.{record_head}
use Rattle.notice.specs.Record.{recorded, has_room}
use Rattle.notice.proofs.Behind.{drop_behind, one_set}
use Rattle.notice.proofs.Records.{recorded_tells}
use Rattle.notice.proofs.writer.write_record.Goals as goal

pub returns-in_err-end-clause-back : goal.returns-in_err-end-clause-back
returns-in_err-end-clause-back c = recorded_tells c.args.signed.now c.args.previous.now c.args.text.now c.into-bytes.ensures.sized (omega arith)

pub returns : goal.returns
unfolding recorded
returns c =
    let s = c.args.signed.now in
    let d = c.args.previous.now in
    let t = c.args.text.now in
    let a = c.args.area.now in
    let n = length t in
    let room : has_room n (length a) ≡ true = grind (arith, nat_tests) in
    let behind : drop n c.split_at_mut-length.result.1.now ≡ drop (record_head + n) a =
    rw (c.split_at_mut-length.ensures.back, c.split_at_mut-digest.ensures.back, c.split_at_mut-statement.ensures.back) (
    drop_behind 1 n (1 + n) _ refl
    ∙ (drop_behind 32 (1 + n) (33 + n) _ (omega arith) ∙ drop_behind 81 (33 + n) (record_head + n) a (omega arith))
    ) in
    record {
      answers = grind (arith, nat_tests);
      area =
          rw (
            room,
            behind,
            one_set c.split_at_mut-length.result.0.now n (omega arith),
            c.copy_from_slice.ensures.after,
            c.copy_from_slice-2.ensures.after,
            c.copy_from_slice-3.ensures.after,
            c.into-bytes.ensures.answers,
          ) (simp append_assoc);
      back = recorded_tells c.args.signed.now c.args.previous.now c.args.text.now c.into-bytes.ensures.sized (omega arith);
    }
