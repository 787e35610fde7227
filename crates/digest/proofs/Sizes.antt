-- Digests and tags have 32 bytes, each below 256.
use Rattle.std.proofs.Common.{◌≡◌, ℕ, zero, suc, ◌*◌, ◌<◌, List, [], ◌∷◌, length, fold, sym, refl, ap, ◌∙◌, arith}
use Rattle.std.specs.List.{flat_map, AllByRecursion as All}
use Rattle.std.proofs.ByRecursion.{All-append}
use Rattle.digest.specs.Bytes.{Bytes, bytes4}
use Rattle.digest.specs.Words.{Words}
use Rattle.digest.specs.Constants.{initial}
use Rattle.digest.specs.Hmac.{hmac}
use Rattle.digest.specs.Sha256.{round, rounds, schedule, summed, parsed, padded, compressed, sha256}

length-summed : (xs ys : Words) → length xs ≡ length ys → length (summed xs ys) ≡ length xs
unfolding summed
length-summed [] [] e = refl
length-summed [] (y ∷ ys) e = refl
length-summed (x ∷ xs) [] e = omega arith
length-summed (x ∷ xs) (y ∷ ys) e = ap suc (length-summed xs ys (omega arith))

length-rounds : (n : ℕ) (w v : Words) → length v ≡ 8 → length (rounds n w v) ≡ 8
unfolding rounds round
length-rounds zero w v e = e
length-rounds (suc n) w v e = refl

length_folded : (v : Words) (blocks : List Words) → length v ≡ 8 → length (fold compressed v blocks) ≡ 8
unfolding compressed
length_folded v [] e = e
length_folded v (m ∷ ms) e =
    let r = length-rounds 64 (schedule m) v e in
    length_folded (compressed v m) ms (length-summed (rounds 64 (schedule m) v) v (r ∙ sym e) ∙ r)

length_joined : (ws : Words) → length (flat_map bytes4 ws) ≡ 4 * length ws
length_joined [] = refl
length_joined (w ∷ ws) = omega (arith, length_joined ws)

pub length-sha256 : (message : Bytes) → length (sha256 message) ≡ 32
unfolding sha256 initial
length-sha256 message =
    let value : Words = fold compressed initial (parsed (padded message)) in
    length_joined value ∙ ap (λ n. 4 * n) (length_folded initial (parsed (padded message)) refl)

pub length-hmac : (key message : Bytes) → length (hmac key message) ≡ 32
unfolding hmac
length-hmac key message = length-sha256 _

bytes4_below : (n : ℕ) → All (λ b. b < 256) (bytes4 n)
bytes4_below n = (omega arith, (omega arith, (omega arith, (omega arith, tt))))

joined_below : (ws : Words) → All (λ b. b < 256) (flat_map bytes4 ws)
joined_below [] = tt
joined_below (w ∷ ws) = All-append (λ b. b < 256) (bytes4 w) (flat_map bytes4 ws) (bytes4_below w) (joined_below ws)

pub sha256_below : (message : Bytes) → All (λ b. b < 256) (sha256 message)
unfolding sha256
sha256_below message = joined_below _

pub hmac_below : (key message : Bytes) → All (λ b. b < 256) (hmac key message)
unfolding hmac
hmac_below key message = sha256_below _
