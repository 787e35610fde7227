-- What every area means as a bank is sound. A bank hands this over as a part of being one, so it is shown here.
use Rattle.std.specs.Prelude.{◌≡◌, ℕ, zero, suc, ◌*◌, ◌%◌, ◌<◌, ◌≤◌, Bool, true, false, if◌then◌else◌, ◌&&◌, ◌⊎◌, List, [], ◌∷◌, map, length, take, drop, replicate, ◌==◌, nat_le, nat_lt, slice_index, refl}
use Rattle.std.specs.List.{list_all}
use Rattle.std.specs.Simd.{first_chunks}
use Rattle.std.proofs.Common.{ap, ◌∙◌, inl, inr, not-suc-le-zero, le_of_suc-le-suc, arith, lit≤}
use Rattle.std.proofs.lemmas.List.{length-map, length-append, length-take, get_or-replicate}
use Rattle.std.proofs.lemmas.Bool.{and_parts, leb-true, eqb-true, cases_Bool}
use Rattle.bank.specs.Bank.{Sound, highest_limit}
use Rattle.bank.specs.Format.{Format, Sixteen, numbers_of, numbers_by, limit_by}
use Rattle.bank.specs.Tally.{bits, bits_in, zeros, tally, longest_region}
use Rattle.bank.specs.TallyArea.{tally_area, tally_format, longest_area, size_of}
use Rattle.bank.specs.TallyArea as tallied
use Rattle.bank.specs.Word.{words, words_size, word_area, word_format}
use Rattle.bank.specs.Word as worded

pub length-first_chunks : (s n : ℕ) (area : List ℕ) → length (first_chunks s n area) ≡ n
length-first_chunks s zero area = refl
length-first_chunks s (suc n) area = ap suc (length-first_chunks s n (drop s area))

pub length-numbers_of : (number : List ℕ → ℕ) (s : ℕ) (area : List ℕ) → length (numbers_of number s area) ≡ 16
unfolding numbers_of
length-numbers_of number s area = length-map (first_chunks s 16 area) number ∙ length-first_chunks s 16 area

-- sixteen zeros under the limit 0
pub zeros_sound : Sound (replicate 16 0) 0
zeros_sound = record { sixteen = refl; within = λ c h. omega (arith, get_or-replicate {A = ℕ} 16 c 0 0 h); most = lit≤ tt }

-- for any format: what an area that can be used is like makes every area sound
pub format_sound : (f : Format) → ((area : List ℕ) → f.usable area ≡ true → Sixteen f area) → (area : List ℕ) → Sound (numbers_by f area) (limit_by f area)
format_sound f sixteen area = go (cases_Bool (f.usable area))
  where
    go : (f.usable area ≡ true) ⊎ (f.usable area ≡ false) → Sound (numbers_by f area) (limit_by f area)
    go (inl e) =
        let s = sixteen area e in
        rw e record { sixteen = length-numbers_of f.number (f.size (length area)) area; within = s.within; most = s.most }
    go (inr e) = rw e zeros_sound

-- where each passes the test, each is at most the limit
pub each_within : (limit : ℕ) (ns : List ℕ) → list_all (λ n. nat_le n limit) ns ≡ true → (c : ℕ) → c < length ns → slice_index ns c ≤ limit
each_within limit [] e c h = absurd (not-suc-le-zero h)
each_within limit (n ∷ ns) e zero h = leb-true n limit (and_parts (nat_le n limit) (list_all (λ m. nat_le m limit) ns) e).0
each_within limit (n ∷ ns) e (suc c) h =
    each_within limit ns (and_parts (nat_le n limit) (list_all (λ m. nat_le m limit) ns) e).1 c (le_of_suc-le-suc h)

pub word_sixteen : (area : List ℕ) → word_area area ≡ true → Sixteen word_format area
unfolding word_area
word_sixteen area e =
    let both = and_parts (length area == words_size) (list_all (λ n. nat_le n highest_limit) (words area)) e in
    let long : length area ≡ 64 = eqb-true (length area) 64 both.0 in
    record {
      whole = omega arith;
      within = λ c h. each_within highest_limit (words area) both.1 c (rw length-numbers_of h);
      most = lit≤ tt;
    }

pub word_sound : (area : List ℕ) → Sound (worded.numbers_in area) (worded.limit_of area)
word_sound = format_sound word_format word_sixteen

-- a region has at most eight zero bits a byte
one_at_most : (b : Bool) → (if b then 1 else 0) ≤ 1
one_at_most true = omega arith
one_at_most false = omega arith

zeros_le : (xs : List ℕ) → zeros xs ≤ length xs
unfolding zeros
zeros_le [] = omega arith
zeros_le (x ∷ xs) = omega (arith, one_at_most (x == 0), zeros_le xs)

pub length-bits_in : (region : List ℕ) → length (bits_in region) ≡ 8 * length region
unfolding bits_in
length-bits_in [] = refl
length-bits_in (b ∷ bs) = omega (arith, length-append (bits b) (bits_in bs), length-bits_in bs)

pub tally_le : (region : List ℕ) → tally region ≤ 8 * length region
tally_le region = omega (arith, zeros_le (bits_in region), length-bits_in region)

tallies_within : (n s : ℕ) (area : List ℕ) (c : ℕ) → c < n → slice_index (map tally (first_chunks s n area)) c ≤ 8 * s
tallies_within zero s area c h = absurd (not-suc-le-zero h)
tallies_within (suc n) s area zero h = omega (arith, tally_le (take s area), length-take s area)
tallies_within (suc n) s area (suc c) h = tallies_within n s (drop s area) c (le_of_suc-le-suc h)

pub tally_sixteen : (area : List ℕ) → tally_area area ≡ true → Sixteen tally_format area
unfolding tally_area numbers_of
tally_sixteen area e =
    let both = and_parts (length area % 16 == 0) (nat_lt 0 (length area) && nat_le (length area) longest_area) e in
    let sized = and_parts (nat_lt 0 (length area)) (nat_le (length area) longest_area) both.1 in
    let filled = eqb-true (length area % 16) 0 both.0 in
    let short = leb-true (length area) longest_area sized.1 in
    record { whole = omega arith; within = tallies_within 16 (size_of area) area; most = omega arith }

-- a region of such an area is not too long to be counted
pub tally_short : (area : List ℕ) → tally_area area ≡ true → size_of area ≤ longest_region
unfolding tally_area
tally_short area e =
    let both = and_parts (length area % 16 == 0) (nat_lt 0 (length area) && nat_le (length area) longest_area) e in
    let short = leb-true (length area) longest_area (and_parts (nat_lt 0 (length area)) (nat_le (length area) longest_area) both.1).1 in
    omega arith

pub tally_sound : (area : List ℕ) → Sound (tallied.numbers_in area) (tallied.limit_of area)
tally_sound = format_sound tally_format tally_sixteen
