-- A tag's answer by what its limits say, and its key block.
use Rattle.std.proofs.Common.{◌≡◌, ◌+◌, ◌/◌, ◌≤◌, [], ◌∷◌, ◌++◌, map, length, drop, replicate, fold, sym, ap, ◌∙◌, arith, length-append}
use Rattle.std.specs.List.{range_with_len, flat_map}
use Rattle.std.proofs.lemmas.List.{append_assoc, drop-replicate, take_all}
use Rattle.digest.specs.Bytes.{Bytes, bytes4}
use Rattle.digest.specs.Constants.{initial}
use Rattle.digest.specs.Hmac.{key_block}
use Rattle.digest.specs.Words.{Words}
use lib.ListN.{length-replicate}
use Rattle.digest.specs.Sha256.{block, words, parsed, padding, padded, compressed, sha256}
use Rattle.digest.proofs.Blocks.{parsed-append}

pub length-key_block : (key : Bytes) → length key ≤ 64 → length (key_block key) ≡ 64
unfolding key_block
length-key_block key le = simp (length-append, length-replicate) (omega arith)

-- the key at the front of a zeroed block
pub key_block_made : (key : Bytes) → key ++ drop (length key) (replicate 64 0) ≡ key_block key
unfolding key_block
key_block_made key = ap (λ zeros. key ++ zeros) (drop-replicate (length key) 64 0)

one_block : (b : Bytes) → length b ≡ 64 → parsed b ≡ words b ∷ []
unfolding parsed block
one_block b e =
    let n : length b / 64 ≡ 1 = omega arith in
    let le : length b ≤ 64 = omega arith in
    ap (λ n. map (λ i. words (block b i)) (range_with_len 0 n)) n ∙ ap (λ x. words x ∷ []) (take_all 64 b le)

-- a block of 64 bytes before a message
first_block : (b m : Bytes) → length b ≡ 64
    → flat_map bytes4 (fold compressed (compressed initial (words b)) (parsed (m ++ padding (64 + length m)))) ≡ sha256 (b ++ m)
unfolding sha256 padded
first_block b m e =
    let n : length (b ++ m) ≡ 64 + length m = length-append b m ∙ ap (λ k. k + length m) e in
    let end : Bytes = padding (64 + length m) in
    let blocks : parsed ((b ++ m) ++ padding (length (b ++ m))) ≡ words b ∷ parsed (m ++ end) =
    ap (λ k. parsed ((b ++ m) ++ padding k)) n ∙ ap parsed (append_assoc b m end) ∙ parsed-append b (m ++ end) 1 e
    ∙ ap (λ xs. xs ++ parsed (m ++ end)) (one_block b e) in
    ap (λ xs. flat_map bytes4 (fold compressed initial xs)) (sym blocks)

-- a text finished after a value that is the compression of a block
pub finished : (value : Words) (block front text result : Bytes) → length block ≡ 64 → value ≡ compressed initial (words block) → block ≡ front
    → result ≡ flat_map bytes4 (fold compressed value (parsed (text ++ padding (64 + length text)))) → result ≡ sha256 (front ++ text)
finished value block front text result e h m r =
    r ∙ ap (λ v. flat_map bytes4 (fold compressed v (parsed (text ++ padding (64 + length text))))) h ∙ first_block block text e
    ∙ ap (λ b. sha256 (b ++ text)) m
