-- Laws of the wiped area.
use Rattle.std.proofs.Common.{◌≡◌, ℕ, Bool, true, false, if◌then◌else◌, nat_lt, ◌<◌, ◌≤◌, ◌++◌, length, drop, replicate, sym, refl, ap, ◌∙◌, ⊎_elim, arith, length-drop, drop_at}
use Rattle.std.proofs.lemmas.Bool.{cases_lt}
use Rattle.std.proofs.lemmas.Bool.Decides.{nat_tests}
use Rattle.digest.specs.Bytes.{Bytes}
use Rattle.digest.specs.Wiped.{used, wiped}

-- zeros in the part that is used, and the bytes after it
front_wiped : (short : Bool) (s : Bytes) → replicate (if short then 0 else 64) 0 ++ drop (if short then 0 else 64) s
    ≡ (if short then s else replicate 64 0 ++ drop 64 s)
front_wiped true s = refl
front_wiped false s = refl

pub wiped_parts : (s part zeros rest : Bytes) (n : ℕ) → n ≡ used (length s) → length part ≡ n → zeros ≡ replicate (length part) 0 → rest ≡ drop n s
    → zeros ++ rest ≡ wiped s
unfolding wiped
wiped_parts s part zeros rest n e l z r =
    ap (λ x. x ++ rest) z ∙ ap (λ x. replicate (length part) 0 ++ x) r ∙ ap (λ k. replicate k 0 ++ drop n s) l
    ∙ ap (λ k. replicate k 0 ++ drop k s) e ∙ front_wiped (nat_lt (length s) 64) s

-- an area under 64 bytes is as it was
wiped_short : (s : Bytes) → length s < 64 → s ≡ wiped s
unfolding wiped
wiped_short s lt = grind (arith, nat_tests)

wiped_long : (s : Bytes) → 64 ≤ length s → replicate 64 0 ++ drop 64 s ≡ wiped s
unfolding wiped
wiped_long s le = grind (arith, nat_tests)

pub length-wiped : (s : Bytes) → length (wiped s) ≡ length s
length-wiped s =
    ⊎_elim
    (λ lt. ap length (sym (wiped_short s lt)))
    (λ le. ap length (sym (wiped_long s le)) ∙ simp length-drop (omega arith))
    (cases_lt (length s) 64)

pub wiped_twice : (s : Bytes) → wiped (wiped s) ≡ wiped s
wiped_twice s =
    ⊎_elim
    (λ lt. ap wiped (sym (wiped_short s lt)))
    (λ le.
    let n : 64 ≤ length (wiped s) = omega (arith, length-wiped s) in
    let rest : drop 64 (wiped s) ≡ drop 64 s = ap (drop 64) (sym (wiped_long s le)) ∙ drop_at (replicate 64 0) (drop 64 s) 64 refl in
    sym (wiped_long (wiped s) n) ∙ ap (λ r. replicate 64 0 ++ r) rest ∙ wiped_long s le)
    (cases_lt (length s) 64)
