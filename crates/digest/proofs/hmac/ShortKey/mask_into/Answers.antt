use Rattle.std.proofs.Common.{◌≡◌, ℕ, ◌<◌, [], ◌++◌, map, length, take, drop, replicate, ap, ◌∙◌, arith}
use lib.Bits.{bit_xor}
use Rattle.std.proofs.lemmas.List.Edits.{map_over_more}
use Rattle.std.proofs.lemmas.List.{append-nil, take_all, drop_all, get_or_default}
use Rattle.digest.specs.Bytes.{Bytes}
use Rattle.digest.specs.Hmac.{masked, key_block}
use Rattle.digest.proofs.Tags.{length-key_block, key_block_made}
use Rattle.digest.proofs.hmac.ShortKey.mask_into.Goals as goal

pub loop-byte-init : goal.loop-byte-init
loop-byte-init c =
    let key : Bytes = c.args.self.now.bytes.now in
    ap (λ front. front ++ drop (length key) c.fill.new.self) c.copy_from_slice.ensures.after
    ∙ ap (λ zeros. key ++ drop (length key) zeros) (c.fill.ensures.after (λ y e. e) ∙ ap (λ n. replicate n 0) c.told-block)
    ∙ key_block_made key

pub loop-byte-preserved : goal.loop-byte-preserved
loop-byte-preserved c =
    let block : Bytes = key_block c.args.self.now.bytes.now in
    let whole : length block ≡ 64 = length-key_block c.args.self.now.bytes.now c.args.self.now.short in
    let lt : c.loop-byte.byte-index < length block = omega arith in
    map_over_more (λ byte. bit_xor byte c.args.pad) block c.loop-byte.block c.loop-byte.byte-index _ lt c.loop-byte.invariant
    (get_or_default c.loop-byte.block c.loop-byte.byte-index 0 _ (omega arith))

pub returns : goal.returns
unfolding masked
returns c =
    let i : ℕ = c.loop-byte.byte-index in
    let block : Bytes = key_block c.args.self.now.bytes.now in
    let f : ℕ → ℕ = λ byte. bit_xor byte c.args.pad in
    let whole : length block ≡ 64 = length-key_block c.args.self.now.bytes.now c.args.self.now.short in
    let some : take i block ≡ block = take_all i block (omega arith) in
    let none : drop i block ≡ [] = drop_all i block (omega arith) in
    record { area = c.loop-byte.invariant ∙ ap (λ rest. map f (take i block) ++ rest) none ∙ append-nil _ ∙ ap (map f) some }
