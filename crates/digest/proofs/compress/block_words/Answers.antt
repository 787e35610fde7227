use Rattle.std.proofs.Common.{◌≡◌, ℕ, ◌*◌, ◌/◌, ◌<◌, [], length, get_or, drop, ◌∙◌, arith, rules, ap, w32, length-set}
use Rattle.std.specs.Int.{from_be_bytes}
use Rattle.std.specs.Simd.{first_chunks}
use Rattle.std.proofs.lemmas.List.FromFn.{fill_by_all}
use Rattle.std.proofs.lemmas.List.Edits.{fill_by_more}
use Rattle.digest.specs.Bytes.{Bytes, number4}
use Rattle.digest.specs.Sha256.{words}
use Rattle.digest.proofs.Listed.{word_at}
use Rattle.digest.proofs.compress.block_words.Goals as goal

pub loop-i-preserved : goal.loop-i-preserved
loop-i-preserved c =
    let word : ℕ → ℕ = λ k. from_be_bytes w32 (get_or c.as_chunks.result.0.now k []) in
    let lt : c.loop-i.i < length c.loop-i.words = omega arith in
    let e : c.from_be_bytes.result ≡ word c.loop-i.i = search rules in
    (length-set c.loop-i.words c.loop-i.i _ ∙ c.loop-i.invariant.0, simp e (fill_by_more word c.loop-i.words c.loop-i.i 0 lt c.loop-i.invariant.1))

pub returns : goal.returns
unfolding words
returns c =
    let block : Bytes = c.args.block.now in
    let many : length block / 4 ≡ 16 = omega arith in
    let front = c.as_chunks.ensures.front ∙ ap (λ n. first_chunks 4 n block) many in
    record {
      answers = fill_by_all (λ k. number4 (drop (4 * k) block)) c.loop-i.words 16 0 c.loop-i.invariant.0
          (λ k h. c.loop-i.invariant.1 k (omega arith) ∙ ap (λ fours. from_be_bytes w32 (get_or fours k [])) front ∙ word_at block k c.told-block h);
    }
