-- A part of each format, once it is raised, holds the new number, and leaves its area one that can be used.
use Rattle.std.proofs.Common.{◌≡◌, ℕ, zero, suc, ◌-◌, ◌*◌, ◌/◌, ◌%◌, ◌<◌, ◌≤◌, true, ◌&&◌, eqb, ltb, leb, List, [], ◌∷◌, map, length, set, sym, refl, ap, ◌∙◌, arith}
use Rattle.std.specs.List.{list_all}
use Rattle.std.specs.Simd.{first_chunks}
use Rattle.std.specs.Int.{w32, from_be_bytes, to_be_bytes}
use Rattle.std.proofs.lemmas.List.{map-set}
use Rattle.std.proofs.lemmas.List.Folds.{list_all-map}
use Rattle.std.proofs.lemmas.Nat.{from_be_bytes-to_be_bytes_4}
use Rattle.std.proofs.lemmas.Bool.{and_parts, and_from, eqb-true, eq-eqb, le-leb}
use Rattle.bank.specs.Bank.{highest_limit}
use Rattle.bank.specs.Parts.{with_part}
use Rattle.bank.specs.Format.{Holds, numbers_of}
use Rattle.bank.specs.Word.{words, word_area, word_format}
use Rattle.bank.specs.Soundness.{length-bits_in}
use Rattle.bank.specs.Tally.{bits_in, ones, tally, raised_by, Clears}
use Rattle.bank.specs.TallyArea.{tally_area, tally_format, longest_area, Raises}
use Rattle.bank.proofs.ClearLaws.{bits_in_region, zeros_and_ones}
use Rattle.bank.proofs.PartLaws.{length_with_part, first_chunks-with_part}
use Rattle.bank.proofs.TallyLaws.{length-raised_by, raise_clears}

-- where each passes the test, so do they with one more that does
list_all-set : (limit : ℕ) (ns : List ℕ) (c n : ℕ) → list_all (λ m. leb m limit) ns ≡ true → n ≤ limit → list_all (λ m. leb m limit) (set ns c n) ≡ true
list_all-set limit [] c n e h = refl
list_all-set limit (m ∷ ns) zero n e h =
    and_from (leb n limit) (list_all (λ m. leb m limit) ns) (le-leb n limit h) (and_parts (leb m limit) (list_all (λ m. leb m limit) ns) e).1
list_all-set limit (m ∷ ns) (suc c) n e h =
    let both = and_parts (leb m limit) (list_all (λ m. leb m limit) ns) e in
    and_from (leb m limit) (list_all (λ m. leb m limit) (set ns c n)) both.0 (list_all-set limit ns c n both.1 h)

-- the test of each word, as the code makes it
pub all_words : (area : List ℕ) → length area ≡ 64
    → list_all (λ word. leb (from_be_bytes w32 word) highest_limit) (first_chunks 4 (length area / 4) area) ≡ list_all (λ n. leb n highest_limit) (words area)
unfolding numbers_of
all_words area e = rw e (sym (list_all-map (λ n. leb n highest_limit) (from_be_bytes w32) (first_chunks 4 16 area)))

-- a word that is written reads as the number
word-read : (to : ℕ) → to ≤ highest_limit → from_be_bytes w32 (to_be_bytes w32 to) ≡ to
word-read to h = from_be_bytes-to_be_bytes_4 to (omega arith)

word_area-with_part : (to c : ℕ) (area : List ℕ) → to ≤ highest_limit → word_area area ≡ true → c < 16 → word_area (with_part 4 c area (to_be_bytes w32 to)) ≡ true
unfolding word_area numbers_of
word_area-with_part to c area h e small =
    let both = and_parts (eqb (length area) 64) (list_all (λ n. leb n highest_limit) (words area)) e in
    let long : length area ≡ 64 = eqb-true (length area) 64 both.0 in
    let numbers : words (with_part 4 c area (to_be_bytes w32 to)) ≡ set (words area) c to =
    ap (map (from_be_bytes w32)) (first_chunks-with_part 16 4 c area (to_be_bytes w32 to) small (omega arith) refl)
    ∙ map-set (from_be_bytes w32) (first_chunks 4 16 area) c (to_be_bytes w32 to)
    ∙ ap (set (words area) c) (word-read to h)
    in
    and_from _ _
    (eq-eqb _ 64 (length_with_part 16 4 c area (to_be_bytes w32 to) small (omega arith) refl ∙ long))
    (ap (list_all (λ n. leb n highest_limit)) numbers ∙ list_all-set highest_limit (words area) c to both.1 h)

pub word_holds : (before after : List ℕ) (to : ℕ) → length before ≡ 4 → to ≤ highest_limit → after ≡ to_be_bytes w32 to → Holds word_format before to after
word_holds before after to long h e =
    rw e record { long = sym long; number = word-read to h; usable = λ area c u small _. word_area-with_part to c area h u small }

-- an area of the same length can be used as well
tally_area-with_part : (area : List ℕ) (c : ℕ) (new : List ℕ) → tally_area area ≡ true → c < 16 → length new ≡ length area / 16
    → tally_area (with_part (length area / 16) c area new) ≡ true
unfolding tally_area
tally_area-with_part area c new e small long =
    let room : length area / 16 * 16 ≤ length area = omega arith in
    ap (λ n. eqb (n % 16) 0 && (ltb 0 n && leb n longest_area)) (length_with_part 16 (length area / 16) c area new small room long) ∙ e

module _ (region : List ℕ) (to : ℕ) (higher : tally region < to) (within : to ≤ 8 * length region) where
  -- there are as many 1 bits as the raise is to clear
  enough : to - tally region ≤ ones (bits_in region)
  enough = omega (arith, zeros_and_ones (bits_in region) (bits_in_region region), length-bits_in region)

  clears : Clears (to - tally region) (bits_in region) (bits_in (raised_by (to - tally region) region))
  clears = raise_clears (to - tally region) region enough

  counted : tally (raised_by (to - tally region) region) ≡ to
  counted = omega (arith, clears.counts)

  pub tally_raises : Raises region (raised_by (to - tally region) region) to
  tally_raises = record { counted = counted; clears = clears }

  pub tally_holds : Holds tally_format region to (raised_by (to - tally region) region)
  tally_holds =
      record {
        long = length-raised_by (to - tally region) region;
        number = counted;
        usable = λ area c e small long. tally_area-with_part area c (raised_by (to - tally region) region) e small long;
      }
