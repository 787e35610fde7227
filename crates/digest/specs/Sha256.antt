-- SHA-256 as FIPS 180-4 defines it, for messages of whole bytes. The numbers are the standard's own.
use Rattle.std.specs.Prelude.{ℕ, zero, suc, ◌-◌, ◌*◌, ◌/◌, ◌%◌, List, [], ◌∷◌, ◌++◌, map, length, take, drop, replicate, fold, slice_index}
use Rattle.std.specs.List.{range_with_len, flat_map}
use Rattle.digest.specs.Bytes.{Bytes, number4, bytes4, bytes8}
use Rattle.digest.specs.Words.{Words, ◌⊞◌, Ch, Maj, Σ0, Σ1, σ0, σ1}
use Rattle.digest.specs.Constants.{K, initial}

-- Padding: the bit 1, as few bits 0 as fill the last block up to its last 64 bits, and there the message's length in bits.
-- What is added depends only on the length n in bytes.
unfoldable pub padding : ℕ → Bytes
padding n = 128 ∷ replicate ((119 - n % 64) % 64) 0 ++ bytes8 (8 * n)

unfoldable pub padded : Bytes → Bytes
padded message = message ++ padding (length message)

-- Parsing: blocks of 64 bytes, each of them sixteen words.
unfoldable pub block : Bytes → ℕ → Bytes
block bytes i = take 64 (drop (64 * i) bytes)

unfoldable pub words : Bytes → Words
words bytes = map (λ i. number4 (drop (4 * i) bytes)) (range_with_len 0 16)

unfoldable pub parsed : Bytes → List Words
parsed bytes = map (λ i. words (block bytes i)) (range_with_len 0 (length bytes / 64))

-- The message schedule: sixteen words of the block, then each word from the 2nd, 7th, 15th and 16th before it.
abbrev pub back : Words → ℕ → ℕ
back w k = slice_index w (length w - k)

unfoldable pub next_word : Words → ℕ
next_word w = σ1 (back w 2) ⊞ back w 7 ⊞ σ0 (back w 15) ⊞ back w 16

unfoldable pub extended : ℕ → Words → Words
extended zero w = w
extended (suc n) w = extended n w ++ next_word (extended n w) ∷ []

unfoldable pub schedule : Words → Words
schedule m = extended 48 m

-- One round on the working variables a to h, with the round's constant k and the schedule's word w.
abbrev pub T1 : (k w e f g h : ℕ) → ℕ
T1 k w e f g h = h ⊞ Σ1 e ⊞ Ch e f g ⊞ k ⊞ w

abbrev pub T2 : (a b c : ℕ) → ℕ
T2 a b c = Σ0 a ⊞ Maj a b c

abbrev pub turned : (k w a b c d e f g h : ℕ) → Words
turned k w a b c d e f g h = (T1 k w e f g h ⊞ T2 a b c) ∷ a ∷ b ∷ c ∷ (d ⊞ T1 k w e f g h) ∷ e ∷ f ∷ g ∷ []

unfoldable pub round : ℕ → ℕ → Words → Words
round k w v =
    turned k w (slice_index v 0) (slice_index v 1) (slice_index v 2) (slice_index v 3) (slice_index v 4) (slice_index v 5) (slice_index v 6) (slice_index v 7)

-- the rounds 0 to n - 1
unfoldable pub rounds : ℕ → Words → Words → Words
rounds zero w v = v
rounds (suc t) w v = round (slice_index K t) (slice_index w t) (rounds t w v)

-- The hash value after one more block: each working variable after 64 rounds is added to the value before.
unfoldable pub summed : Words → Words → Words
summed [] [] = []
summed [] (y ∷ ys) = []
summed (x ∷ xs) [] = []
summed (x ∷ xs) (y ∷ ys) = (x ⊞ y) ∷ summed xs ys

unfoldable pub compressed : Words → Words → Words
compressed value m = summed (rounds 64 (schedule m) value) value

-- The digest: the initial value, every block of the padded message in turn, and the last value's words as bytes.
unfoldable pub sha256 : Bytes → Bytes
sha256 message = flat_map bytes4 (fold compressed initial (parsed (padded message)))
