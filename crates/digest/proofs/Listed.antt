-- A list of a known length is the list of what stands at its places.
use Rattle.std.proofs.Common.{◌≡◌, ℕ, zero, suc, ◌+◌, ◌*◌, ◌<◌, ◌≤◌, [], ◌∷◌, map, length, get_or, take, drop, refl, ap, ◌∙◌, arith, length-drop, drop-drop, w32}
use Rattle.std.specs.Int.{from_be_bytes}
use Rattle.std.specs.Simd.{first_chunks}
use Rattle.std.specs.List.{range_with_len}
use Rattle.std.proofs.lemmas.List.FromFn.{fill_by_all}
use Rattle.digest.specs.Bytes.{Bytes, number4}
use Rattle.digest.specs.Words.{Words}

pub listed : (n : ℕ) (x : Words) → length x ≡ n → x ≡ map (λ i. get_or x i 0) (range_with_len 0 n)
listed n x e = fill_by_all (λ i. get_or x i 0) x n 0 e (λ k h. refl)

-- the k-th chunk of four bytes
get_or-chunks : (n k : ℕ) (bs : Bytes) → k < n → get_or (first_chunks 4 n bs) k [] ≡ take 4 (drop (4 * k) bs)
get_or-chunks zero k bs lt = absurd (omega arith)
get_or-chunks (suc n) zero bs lt = refl
get_or-chunks (suc n) (suc k) bs lt =
    let at : 4 + 4 * k ≡ 4 * suc k = omega arith in
    get_or-chunks n k (drop 4 bs) (omega arith) ∙ ap (take 4) (drop-drop (4 * k) 4 bs ∙ ap (λ m. drop m bs) at)

-- the word in the first four bytes
word_read : (bs : Bytes) → 4 ≤ length bs → from_be_bytes w32 (take 4 bs) ≡ number4 bs
word_read (a ∷ b ∷ c ∷ d ∷ bs) le = omega arith
word_read _ le = absurd (omega arith)

-- the k-th word of a block
pub word_at : (block : Bytes) (k : ℕ) → length block ≡ 64 → k < 16 → from_be_bytes w32 (get_or (first_chunks 4 16 block) k []) ≡ number4 (drop (4 * k) block)
word_at block k e lt =
    let four : 4 ≤ length (drop (4 * k) block) = simp length-drop (omega arith) in
    ap (from_be_bytes w32) (get_or-chunks 16 k block lt) ∙ word_read (drop (4 * k) block) four
