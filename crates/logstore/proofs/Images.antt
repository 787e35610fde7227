-- The bytes of a log tell its records, and a log stays one when a record is laid behind the last or some are left out.
use Rattle.std.proofs.Common.{◌≡◌, ℕ, zero, suc, ◌+◌, ◌-◌, ◌≤◌, Bool, true, false, leb, List, [], ◌∷◌, ◌++◌, length, take, drop, replicate, filter, Some, sym, refl, ap, ◌∙◌, subst, append_assoc, arith}
use Rattle.std.proofs.lemmas.List.{append-nil, drop_at, drop-append-le, drop-drop, drop-replicate, length-append, length_push, length-replicate, replicate-append-replicate, take_at}
use Rattle.std.proofs.lemmas.Bool.{cond_both, leb-true, and_from, le-leb}
use Rattle.notice.specs.Record.{is_record}
use Rattle.store.specs.Meaning.{Bytes, Records, Apart, found, spanned}
use Rattle.logstore.specs.Log.{length_size, log_limit, two, laid, log_of, log_space, size_at, first, rest, parse, Layout, SoundLog}
use Rattle.store.proofs.Sets.{records_push, apart_push, records_kept, apart_kept, found_good}
use Rattle.notice.proofs.Records.{record_short}
use Rattle.notice.specs.Limits.{record_limit}

size_of_laid : (n : ℕ) (bytes : List ℕ) → size_at (two n ++ bytes) ≡ n
unfolding size_at
size_of_laid n bytes = omega arith

first-laid : (r : Bytes) (bytes : List ℕ) → first (two (length r) ++ (r ++ bytes)) ≡ r
unfolding first
first-laid r bytes =
    ap (λ k. take k (r ++ bytes)) (size_of_laid (length r) (r ++ bytes)) ∙ take_at r bytes (length r) refl

rest-laid : (r : Bytes) (bytes : List ℕ) → rest (two (length r) ++ (r ++ bytes)) ≡ bytes
unfolding rest
rest-laid r bytes =
    let all = two (length r) ++ (r ++ bytes) in
    ap (λ k. drop (length_size + k) all) (size_of_laid (length r) (r ++ bytes))
    ∙ (sym (drop-drop (length r) 2 all) ∙ drop_at r bytes (length r) refl)

laid_cons : (r : Bytes) (rs : List Bytes) (zs : List ℕ) → laid (r ∷ rs) ++ zs ≡ two (length r) ++ (r ++ (laid rs ++ zs))
laid_cons r rs zs = ap (λ x. two (length r) ++ x) (append_assoc r (laid rs) zs)

-- the bytes tell the records
pub parse-laid : (rs : List Bytes) (zs : List ℕ) → parse (length rs) (laid rs ++ zs) ≡ rs
parse-laid [] zs = refl
parse-laid (r ∷ rs) zs =
    let e = laid_cons r rs zs in
    ap (parse (suc (length rs))) e
    ∙ (ap (λ x. x ∷ parse (length rs) (rest (two (length r) ++ (r ++ (laid rs ++ zs))))) (first-laid r (laid rs ++ zs))
    ∙ (ap (λ x. r ∷ parse (length rs) x) (rest-laid r (laid rs ++ zs)) ∙ ap (λ x. r ∷ x) (parse-laid rs zs)))

pub layout_laid : (rs : List Bytes) (zs : List ℕ) → Layout (length rs) (laid rs ++ zs)
layout_laid [] zs = refl
layout_laid (r ∷ rs) zs =
    let bytes = two (length r) ++ (r ++ (laid rs ++ zs)) in
    let s = size_of_laid (length r) (r ++ (laid rs ++ zs)) in
    subst (Layout (suc (length rs))) (sym (laid_cons r rs zs))
    (and_from (leb (length_size + size_at bytes) (length bytes)) _
    (le-leb (length_size + size_at bytes) (length bytes) (omega (arith, s, length-append r (laid rs ++ zs))))
    (subst (Layout (length rs)) (sym (rest-laid r (laid rs ++ zs))) (layout_laid rs zs)))

pub length_parse : (n : ℕ) (bytes : List ℕ) → length (parse n bytes) ≡ n
length_parse zero bytes = refl
length_parse (suc n) bytes = ap suc (length_parse n (rest bytes))

pub laid_push : (rs : List Bytes) (r : Bytes) → laid (rs ++ r ∷ []) ≡ laid rs ++ (two (length r) ++ r)
laid_push [] r = ap (λ x. two (length r) ++ x) (append-nil r)
laid_push (s ∷ rs) r =
    ap (λ x. two (length s) ++ (s ++ x)) (laid_push rs r)
    ∙ ap (λ x. two (length s) ++ x) (sym (append_assoc s (laid rs) (two (length r) ++ r)))

-- each record takes two bytes and more
pub count_le_reach : (rs : List Bytes) → length rs ≤ length (laid rs)
count_le_reach [] = omega arith
count_le_reach (r ∷ rs) = let h = count_le_reach rs in omega (arith, length-append r (laid rs))

pub space_bounds : (n : ℕ) → (log_space n ≤ n) × (log_space n ≤ log_limit)
space_bounds n = (
  cond_both (leb n log_limit) n 0 (λ z. z ≤ n) (λ h. omega arith) (λ h. omega arith),
  cond_both (leb n log_limit) n 0 (λ z. z ≤ log_limit) (λ h. leb-true n log_limit h) (λ h. omega arith),
)

-- no log has more records than bytes
pub few : (area : List ℕ) (used count : ℕ) → SoundLog area used count → count ≤ log_limit
few area used count s =
    let rs = parse count area in
    omega (arith, s.reach, s.full, count_le_reach rs, length_parse count area, (space_bounds (length area)).1)

-- a sound area is its records, and zero bytes and others
sound_area :
    (area : List ℕ) (used count room : ℕ) → SoundLog area used count → room ≡ log_space (length area) →
    area ≡ laid (parse count area) ++ (replicate (room - used) 0 ++ drop room area)
sound_area area used count room s e =
    let rs = parse count area in
    let f : area ≡ log_of room rs ++ drop room area = subst (λ m. area ≡ log_of m rs ++ drop m area) (sym e) s.lies in
    f ∙ (append_assoc (laid rs) _ (drop room area) ∙ ap (λ k. laid rs ++ (replicate (room - k) 0 ++ drop room area)) (sym s.reach))

-- the records lie in a sound log as the searches ask
pub sound_layout : (area : List ℕ) (used count : ℕ) → SoundLog area used count → Layout count area
sound_layout area used count s =
    let rs = parse count area in
    let room = log_space (length area) in
    let e = sound_area area used count room s refl in
    subst (λ n. Layout n area) (length_parse count area) (subst (Layout (length rs)) (sym e) (layout_laid rs (replicate (room - used) 0 ++ drop room area)))

-- an area with a log in it is sound
pub image_sound :
    (rs : List Bytes) (area others : List ℕ) (room used count : ℕ) → room ≡ log_space (length area) →
    area ≡ laid rs ++ (replicate (room - used) 0 ++ others) →
    used ≡ length (laid rs) → count ≡ length rs → used ≤ room → Records rs → Apart rs →
    SoundLog area used count × (parse count area ≡ rs) × (drop room area ≡ others)
image_sound rs area others room used count space e u n le good apart =
    let p : parse count area ≡ rs =
    ap (λ z. parse count z) e ∙ (ap (λ k. parse k (laid rs ++ (replicate (room - used) 0 ++ others))) n ∙ parse-laid rs (replicate (room - used) 0 ++ others)) in
    let a : area ≡ (laid rs ++ replicate (room - used) 0) ++ others = e ∙ sym (append_assoc (laid rs) (replicate (room - used) 0) others) in
    let l : length (laid rs ++ replicate (room - used) 0) ≡ room =
    length-append (laid rs) (replicate (room - used) 0) ∙ omega (arith, length-replicate {A = ℕ} (room - used) 0) in
    let d : drop room area ≡ others = ap (drop room) a ∙ drop_at (laid rs ++ replicate (room - used) 0) others room l in
    let f : area ≡ log_of room (parse count area) ++ drop room area =
    a ∙ (ap (λ k. (laid rs ++ replicate (room - k) 0) ++ others) u ∙ (ap (λ z. log_of room z ++ others) (sym p) ∙ ap (λ z. log_of room (parse count area) ++ z) (sym d))) in (
      record {
        lies = subst (λ m. area ≡ log_of m (parse count area) ++ drop m area) space f;
        reach = u ∙ ap (λ z. length (laid z)) (sym p);
        full = subst (λ m. used ≤ m) space le;
        good = subst Records (sym p) good;
        apart = subst Apart (sym p) apart;
      },
      p,
      d,
    )

-- a sound area as its records and what follows them
pub sound_parts :
    (area : List ℕ) (used count room : ℕ) → SoundLog area used count → room ≡ log_space (length area) →
    (take used area ≡ laid (parse count area)) × (drop used area ≡ replicate (room - used) 0 ++ drop room area)
sound_parts area used count room s e =
    let rs = parse count area in
    let zs = replicate (room - used) 0 ++ drop room area in
    let f = sound_area area used count room s e in (
      ap (take used) f ∙ take_at (laid rs) zs used (sym s.reach),
      ap (drop used) f ∙ drop_at (laid rs) zs used (sym s.reach),
    )

-- a record laid behind the last
pub appended :
    (area area' : List ℕ) (used count room : ℕ) (r : Bytes) → SoundLog area used count → room ≡ log_space (length area) →
    length area' ≡ length area → is_record r ≡ true → spanned (parse count area) r ≡ false → used + (length_size + length r) ≤ room →
    area' ≡ take used area ++ (two (length r) ++ (r ++ drop (used + (length_size + length r)) area)) →
    SoundLog area' (used + (length_size + length r)) (count + 1) × (parse (count + 1) area' ≡ parse count area ++ r ∷ [])
    × (drop room area' ≡ drop room area)
appended area area' used count room r s space long good free fits e =
    let rs = parse count area in
    let k = 2 + length r in
    let others = drop room area in
    let zs = replicate (room - (used + k)) 0 ++ others in
    let parts = sound_parts area used count room s space in
    let d : drop (used + k) area ≡ zs =
    sym (drop-drop k used area)
    ∙ (ap (drop k) parts.1
    ∙ (drop-append-le k (replicate (room - used) 0) others (omega (arith, length-replicate {A = ℕ} (room - used) 0))
    ∙ (ap (λ z. z ++ others) (drop-replicate k (room - used) 0) ∙ ap (λ m. replicate m 0 ++ others) (omega arith)))) in
    let f : area' ≡ laid (rs ++ r ∷ []) ++ zs =
    e ∙ (ap (λ z. z ++ (two (length r) ++ (r ++ drop (used + k) area))) parts.0
    ∙ (ap (λ z. laid rs ++ (two (length r) ++ (r ++ z))) d
    ∙ (sym (append_assoc (laid rs) (two (length r) ++ r) zs) ∙ ap (λ z. z ++ zs) (sym (laid_push rs r))))) in
    let u : used + k ≡ length (laid (rs ++ r ∷ [])) =
    omega (arith, s.reach, ap length (laid_push rs r), length-append (laid rs) (two (length r) ++ r)) in
    image_sound (rs ++ r ∷ []) area' others room (used + k) (count + 1) (space ∙ ap log_space (sym long)) f u
    (sym (length_push rs r ∙ ap (λ n. n + 1) (length_parse count area)))
    fits (records_push rs r s.good good) (apart_push rs r s.apart free)

-- records left out, those that stay moved together, and what they leave zeroed
pub left_out :
    (p : Bytes → Bool) (area area' : List ℕ) (used count used' count' room : ℕ) → SoundLog area used count →
    room ≡ log_space (length area) → length area' ≡ length area →
    area' ≡ laid (filter p (parse count area)) ++ (replicate (used - used') 0 ++ drop used area) →
    used' ≡ length (laid (filter p (parse count area))) → count' ≡ length (filter p (parse count area)) → used' ≤ used →
    SoundLog area' used' count' × (parse count' area' ≡ filter p (parse count area)) × (drop room area' ≡ drop room area)
left_out p area area' used count used' count' room s space long e u n less =
    let ks = filter p (parse count area) in
    let others = drop room area in
    let full : used ≤ room = subst (λ m. used ≤ m) (sym space) s.full in
    let z : replicate (used - used') 0 ++ (replicate (room - used) 0 ++ others) ≡ replicate (room - used') 0 ++ others =
    sym (append_assoc (replicate (used - used') 0) (replicate (room - used) 0) others)
    ∙ (ap (λ y. y ++ others) (replicate-append-replicate (used - used') (room - used) 0)
    ∙ ap (λ m. replicate m 0 ++ others) (omega arith)) in
    let f : area' ≡ laid ks ++ (replicate (room - used') 0 ++ others) =
    e ∙ (ap (λ y. laid ks ++ (replicate (used - used') 0 ++ y)) (sound_parts area used count room s space).1 ∙ ap (λ y. laid ks ++ y) z) in
    image_sound ks area' others room used' count' (space ∙ ap log_space (sym long)) f u n (omega arith)
    (records_kept p (parse count area) s.good) (apart_kept p (parse count area) s.apart)

-- what is found is a record, and none is longer than 314 bytes
pub found_short :
    (area : List ℕ) (used count q p : ℕ) (r : Bytes) → SoundLog area used count →
    Some r ≡ found q p (parse count area) → length r ≤ record_limit
found_short area used count q p r s f = omega (arith, record_short r (found_good q p (parse count area) r s.good (sym f)))
