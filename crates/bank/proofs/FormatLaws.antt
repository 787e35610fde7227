-- Laws of a format: the number of a part, and what a raise of one makes of the area and of the numbers in it.
use Rattle.std.proofs.Common.{◌≡◌, ℕ, ◌+◌, ◌-◌, ◌*◌, ◌<◌, ◌≤◌, true, false, List, map, length, get_or, set, take, drop, is_ok, Some, None, Option, sym, ap, ◌∙◌, arith, ◌⊎◌, inl, inr}
use borrow.Rule.Slice.PartMut.{put_mid}
use Rattle.std.specs.Simd.{first_chunks}
use Rattle.std.proofs.lemmas.List.{map-set}
use Rattle.std.proofs.lemmas.Bool.{cases_Bool, cond-true}
use Rattle.bank.specs.Bank.{MayRaise, raising, raised}
use Rattle.bank.specs.Parts.{with_part}
use Rattle.bank.specs.Format.{Format, Sixteen, Holds, size_in, part_of, numbers_of, numbers_by, limit_by}
use Rattle.bank.proofs.PartLaws.{get_or_map-first_chunks, part_ends, written-part, length_part, length_with_part, first_chunks-with_part}
use Rattle.bank.proofs.Raising.{raises}

-- an area with a size can be used
pub record Usable (f : Format) (area : List ℕ) (s : ℕ) : Type 0 where
  pub usable : f.usable area ≡ true
  pub size : s ≡ f.size (length area)

pub usable_of : (f : Format) (area : List ℕ) (s : ℕ) → size_in f area ≡ Some s → Usable f area s
usable_of f area s e = go (cases_Bool (f.usable area))
  where
    go : (f.usable area ≡ true) ⊎ (f.usable area ≡ false) → Usable f area s
    go (inl u) =
        let sized : ◌≡◌ {A = Option ℕ} (Some (f.size (length area))) (Some s) = rw u at e in
        record { usable = u; size = cc }
    go (inr u) =
        let none : ◌≡◌ {A = Option ℕ} None (Some s) = rw u at e in
        absurd (cc)

-- the slice that the code cuts, at the counter's number k: it lies within the area, its bytes are the counter's part,
-- and bytes that are written there are written to that part
module _ (f : Format) (area : List ℕ) (s k c : ℕ) (e : size_in f area ≡ Some s) (n : k ≡ c) where
  whole : s * c + s - s * c ≡ s
  whole = omega arith

  pub cut_within : Sixteen f area → c < 16 → s * k + s ≤ length area
  cut_within sixteen h = let u = usable_of f area s e in rw n (omega (arith, part_ends 16 s c h, sixteen.whole, u.size))

  pub cut_part : take (s * k + s - s * k) (drop (s * k) area) ≡ part_of f area c
  cut_part =
      let u = usable_of f area s e in
      rw n (ap (λ m. take m (drop (s * c) area)) whole ∙ ap (λ m. take m (drop (m * c) area)) u.size)

  pub cut_written : (new : List ℕ) → put_mid (s * k) (s * k + s - s * k) area new ≡ with_part (f.size (length area)) c area new
  cut_written new =
      let u = usable_of f area s e in
      rw n (written-part s c (s * c + s - s * c) area new whole ∙ ap (λ m. with_part m c area new) u.size)

pub number_in : (f : Format) (area : List ℕ) (c : ℕ) → f.usable area ≡ true → c < 16 → get_or (numbers_by f area) c 0 ≡ f.number (part_of f area c)
unfolding numbers_of
number_in f area c u h = rw u (get_or_map-first_chunks f.number 16 (f.size (length area)) c area h)

module _ (f : Format) (area new : List ℕ) (c to : ℕ) (s : Sixteen f area) (u : f.usable area ≡ true) (r : MayRaise (limit_by f area) (numbers_by f area) c to) (h : Holds f (part_of f area c) to new) where
  room : f.size (length area) * 16 ≤ length area
  room = omega (arith, s.whole)

  new_long : length new ≡ f.size (length area)
  new_long = h.long ∙ length_part 16 (f.size (length area)) c area r.counter room

  next_long : length (with_part (f.size (length area)) c area new) ≡ length area
  next_long = length_with_part 16 (f.size (length area)) c area new r.counter room new_long

  next_usable : f.usable (with_part (f.size (length area)) c area new) ≡ true
  next_usable = h.usable area c u r.counter new_long

  numbers_of-next : numbers_of f.number (f.size (length area)) (with_part (f.size (length area)) c area new) ≡ set (numbers_of f.number (f.size (length area)) area) c to
  unfolding numbers_of
  numbers_of-next =
      ap (map f.number) (first_chunks-with_part 16 (f.size (length area)) c area new r.counter room new_long)
      ∙ map-set f.number (first_chunks (f.size (length area)) 16 area) c new
      ∙ ap (set (map f.number (first_chunks (f.size (length area)) 16 area)) c) h.number

  accepted : is_ok (raising (limit_by f area) (numbers_by f area) c to) ≡ true
  accepted = ap is_ok (raises (limit_by f area) (numbers_by f area) c to r)

  pub numbers_by-next : numbers_by f (with_part (f.size (length area)) c area new) ≡ raised (limit_by f area) (numbers_by f area) c to
  numbers_by-next =
      let numbers : numbers_by f (with_part (f.size (length area)) c area new) ≡ set (numbers_by f area) c to =
      rw (next_usable, u) (ap (λ n. numbers_of f.number (f.size n) (with_part (f.size (length area)) c area new)) next_long ∙ numbers_of-next)
      in
      numbers ∙ sym (cond-true _ (set (numbers_by f area) c to) (numbers_by f area) accepted)
