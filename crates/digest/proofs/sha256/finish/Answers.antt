use Rattle.std.proofs.Common.{ℕ, ◌+◌, ◌*◌, ◌/◌, ◌++◌, length, drop, fold, sym, refl, ap, ◌∙◌}
use Rattle.std.specs.List.{flat_map}
use Rattle.digest.specs.Bytes.{Bytes, bytes4}
use Rattle.digest.specs.Sha256.{padding, parsed, compressed}
use Rattle.digest.proofs.Blocks.{in_two}
use Rattle.digest.proofs.sha256.finish.Goals as goal

pub returns : goal.returns
returns c =
    let m : Bytes = c.args.message.now in
    let whole : ℕ = length m / 64 * 64 in
    let end : Bytes = padding (c.args.before + length m) in
    let last = c.absorb_last.ensures.answers
    ∙ ap (λ x. fold compressed c.absorb-value.result (parsed (x ++ end))) c.as_chunks.ensures.back
    ∙ ap (λ v. fold compressed v (parsed (drop whole m ++ end))) c.absorb-value.ensures.answers
    ∙ sym (in_two c.args.value m end whole refl) in
    record { answers = c.value_bytes.ensures.answers ∙ ap (flat_map bytes4) last }
