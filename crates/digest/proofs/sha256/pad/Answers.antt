use Rattle.std.proofs.Common.{◌≡◌, ℕ, ◌+◌, ◌-◌, ◌%◌, ◌≤◌, ◌*◌, ◌++◌, length, drop, set, replicate, ap, ◌∙◌, arith, length-set, length-append, length-drop}
use borrow.Rule.Slice.PartMut.{put_mid}
use Rattle.std.proofs.lemmas.Bool.Decides.{nat_tests}
use Rattle.digest.specs.Bytes.{Bytes, bytes8}
use Rattle.digest.specs.Sha256.{padding}
use Rattle.digest.proofs.Padding.{laid}
use Rattle.digest.proofs.sha256.pad.Goals as goal

pub returns : goal.returns
unfolding padding
returns c =
    let n : ℕ = length c.args.area.now in
    let z : ℕ = (119 - c.args.total % 64) % 64 in
    let e : n ≡ length c.args.rest.now + z + 9 = grind (arith, nat_tests) in
    let rest : Bytes = c.args.rest.now in
    let k : ℕ = length (set (c.copy_from_slice.new.self ++ drop (length rest) c.fill.new.self) (length rest) 128) - (n - 8) in
    let front = ap length c.copy_from_slice.ensures.after in
    let whole = c.fill.ensures.len in
    let ge : 8 ≤ k = simp (length-set, length-append, length-drop) (omega (arith, front, whole)) in
    record {
      area = ap (λ front. put_mid (n - 8) k (set (front ++ drop (length rest) c.fill.new.self) (length rest) 128) c.copy_from_slice-2.new.self) c.copy_from_slice.ensures.after
          ∙ ap (λ zeros. put_mid (n - 8) k (set (rest ++ drop (length rest) zeros) (length rest) 128) c.copy_from_slice-2.new.self) (c.fill.ensures.after (λ y e. e))
          ∙ ap (put_mid (n - 8) k (set (rest ++ drop (length rest) (replicate n 0)) (length rest) 128)) (c.copy_from_slice-2.ensures.after ∙ c.bit_length.ensures.answers)
          ∙ laid rest (bytes8 (8 * c.args.total)) z n k e ge;
    }
