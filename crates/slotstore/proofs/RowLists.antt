-- A search over the rows of records finds what a search over the records does.
use Rattle.std.proofs.Common.{◌≡◌, ℕ, zero, suc, ◌+◌, ◌<◌, ◌≤◌, Bool, true, false, not, cond, ltb, ◌||◌, List, [], ◌∷◌, map, length, get_or, Some, None, Option, refl, ap, ◌∙◌, arith}
use Rattle.std.specs.List.{list_any, position, position_or_len}
use Rattle.std.specs.Option.{option_map}
use Rattle.std.proofs.lemmas.Grind.{common_steps}
use Rattle.std.proofs.lemmas.List.{length-map}
use Rattle.std.proofs.lemmas.List.Quantifiers.{position-Some}
use Rattle.std.proofs.lemmas.List.Sums.{fails_before_first}
use Rattle.std.proofs.lemmas.Bool.{cond-true, cond-false}
use Rattle.notice.specs.declared.spans.Span.{Span}
use Rattle.notice.specs.Record.{covers}
use Rattle.notice.specs.Spans.{span_contains, spans_meet, span_is_kept}
use Rattle.store.specs.Meaning.{Bytes, meets, any_meets, found, stays}
use Rattle.slotstore.specs.Rows.{row_of, row_span}

-- a test of what a function gives, and the test of what it is given
module _ {X Y : Type 0} (f : X → Y) (p : Y → Bool) (q : X → Bool) (same : (x : X) → p (f x) ≡ q x) where
  position_or_len-map : (xs : List X) → position_or_len p (map f xs) ≡ position_or_len q xs
  position_or_len-map [] = refl
  position_or_len-map (x ∷ xs) =
      ap (λ b. cond (not b) (1 + position_or_len p (map f xs)) 0) (same x)
      ∙ ap (λ n. cond (not (q x)) (1 + n) 0) (position_or_len-map xs)

  pub position-map : (xs : List X) → position p (map f xs) ≡ position q xs
  position-map xs =
      ap (λ n. cond (ltb n (length (map f xs))) (Some n) None) (position_or_len-map xs)
      ∙ ap (λ m. cond (ltb (position_or_len q xs) m) (Some (position_or_len q xs)) None) (length-map xs f)

  pub list_any-map : (xs : List X) → list_any p (map f xs) ≡ list_any q xs
  list_any-map [] = refl
  list_any-map (x ∷ xs) = ap (λ b. b || list_any p (map f xs)) (same x) ∙ ap (λ b. q x || b) (list_any-map xs)

pub position-None : {X : Type 0} (p : X → Bool) (xs : List X) (d : X) → position p xs ≡ None → (k : ℕ) → k < length xs → p (get_or xs k d) ≡ false
position-None p xs d e k h =
    let past : length xs ≤ position_or_len p xs = grind (arith, common_steps) in
    fails_before_first p xs k d (omega arith)

-- the tests of a row are those of its record

pub covering_row : (q p : ℕ) (rs : List Bytes) → position (λ row. span_contains (row_span row) q p) (map row_of rs) ≡ position (covers q p) rs
unfolding covers
covering_row q p rs = position-map row_of (λ row. span_contains (row_span row) q p) (covers q p) (λ r. refl) rs

pub row_below :
    (q n : ℕ) (rs : List Bytes) →
    position (λ row. not (span_is_kept (row_span row) q n)) (map row_of rs) ≡ position (λ r. not (stays q n r)) rs
unfolding stays
row_below q n rs = position-map row_of (λ row. not (span_is_kept (row_span row) q n)) (λ r. not (stays q n r)) (λ r. refl) rs

pub meeting_row : (span : Span) (rs : List Bytes) → list_any (λ row. spans_meet (row_span row) span) (map row_of rs) ≡ any_meets span rs
unfolding meets
meeting_row span rs = list_any-map row_of (λ row. spans_meet (row_span row) span) (meets span) (λ r. refl) rs

-- the record found is the first that covers the position

pub found_first :
    (q p : ℕ) (rs : List Bytes) (i : ℕ) → i < length rs → covers q p (get_or rs i []) ≡ true →
    ((k : ℕ) → k < i → covers q p (get_or rs k []) ≡ false) → found q p rs ≡ Some (get_or rs i [])
found_first q p [] i h t b = absurd (omega arith)
found_first q p (r ∷ rs) zero h t b = cond-true (covers q p r) (Some r) (found q p rs) t
found_first q p (r ∷ rs) (suc i) h t b =
    cond-false (covers q p r) (Some r) (found q p rs) (b 0 (omega arith))
    ∙ found_first q p rs i (omega arith) t (λ k l. b (suc k) (omega arith))

pub found_nowhere :
    (q p : ℕ) (rs : List Bytes) → ((k : ℕ) → k < length rs → covers q p (get_or rs k []) ≡ false) → found q p rs ≡ None
found_nowhere q p [] b = refl
found_nowhere q p (r ∷ rs) b =
    cond-false (covers q p r) (Some r) (found q p rs) (b 0 (omega arith)) ∙ found_nowhere q p rs (λ k l. b (suc k) (omega arith))

pub found_at_position :
    (q p : ℕ) (rs : List Bytes) (place : Option ℕ) → position (covers q p) rs ≡ place → found q p rs ≡ option_map (λ i. get_or rs i []) place
found_at_position q p rs (Some i) e =
    let f = position-Some (covers q p) rs i [] e in found_first q p rs i f.0 f.1 f.2
found_at_position q p rs None e = found_nowhere q p rs (position-None (covers q p) rs [] e)
