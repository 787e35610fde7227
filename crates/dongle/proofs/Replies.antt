-- What an answered press says, read off the definitions.
use Rattle.std.proofs.Common.{◌≡◌, ℕ, zero, suc, ◌<◌, ◌≤◌, Bool, true, false, cond, ltb, leb, List, [], ◌∷◌, length, get_or, set, is_ok, Ok, Err, Result, sym, refl, ap, ◌∙◌, ⊎_elim, arith, length-set}
use Rattle.std.proofs.lemmas.Bool.{cond-true, cond-false, cond_both, cases_Bool, both_ways, ltb-false, leb-false}
use Rattle.bank.specs.declared.fault.BankFault.{BankFault}
use Rattle.bank.specs.declared.fault.BankFault.TheVariants.{NoCounter}
use Rattle.bank.specs.Bank.{telling, raising, raised}
use Rattle.statement.specs.declared.types.SignedStatement.{SignedStatement}
use Rattle.dongle.specs.Trinket.{Trinket, Whole, stands, signed, passed_up, attesting, attested, stating}

-- an answer that is no refusal passed the test before it
past : {A F : Type 0} (b : Bool) (e : F) (r : Result A F) (x : A) → cond b (Err e) r ≡ Ok x → (b ≡ false) × (r ≡ Ok x)
past true e r x h = let z : ◌≡◌ {A = ℕ} 0 1 = cc in absurd (omega arith)
past false e r x h = (refl, h)

-- so did one that a bank's answer was passed up for
below : {A B : Type 0} (r : Result A BankFault) (f : A → B) (y : B) → passed_up r f ≡ Ok y → (x : A) × (r ≡ Ok x) × (f x ≡ y)
below (Ok x) f y h = (x, refl, cc)
below (Err e) f y h = let z : ◌≡◌ {A = ℕ} 0 1 = cc in absurd (omega arith)

-- the same of a test alone
past_ok : {A F : Type 0} (b : Bool) (e : F) (r : Result A F) → is_ok (cond b (Err e) r) ≡ true → (b ≡ false) × (is_ok r ≡ true)
past_ok true e r h = absurd (both_ways _ refl h)
past_ok false e r h = (refl, h)

ok_rises : (limit : ℕ) (numbers : List ℕ) (c to : ℕ) → is_ok (raising limit numbers c to) ≡ true → get_or numbers c 0 ≤ to
ok_rises limit numbers c to h =
    let counter-test = past_ok (ltb 15 c) _ _ h in
    let old-test = past_ok (leb to (get_or numbers c 0)) _ _ counter-test.1 in
    omega (arith, leb-false to (get_or numbers c 0) old-test.0)

-- a counter that is told has the number told
told : (numbers : List ℕ) (c n : ℕ) → telling numbers c ≡ Ok n → n ≡ get_or numbers c 0
told numbers c n h =
    ⊎_elim
    (λ e. let f : ◌≡◌ {A = Result ℕ BankFault} (Ok (get_or numbers c 0)) (Ok n) = sym (cond-true _ _ _ e) ∙ h in cc)
    (λ e.
    let f : ◌≡◌ {A = Result ℕ BankFault} (Err (NoCounter c)) (Ok n) = sym (cond-false _ _ _ e) ∙ h in
    let z : ◌≡◌ {A = ℕ} 0 1 = cc in absurd (omega arith))
    (cases_Bool (ltb c 16))

-- a number set higher lowers no number
set_raises : (xs : List ℕ) (c to k : ℕ) → get_or xs c 0 ≤ to → get_or xs k 0 ≤ get_or (set xs c to) k 0
set_raises [] c to k h = omega arith
set_raises (x ∷ xs) zero to zero h = h
set_raises (x ∷ xs) zero to (suc k) h = omega arith
set_raises (x ∷ xs) (suc c) to zero h = omega arith
set_raises (x ∷ xs) (suc c) to (suc k) h = set_raises xs c to k h

-- the trinket with a bank's numbers after a raise
abbrev raised_trinket : ℕ → Trinket → ℕ → ℕ → Trinket
raised_trinket limit t c to = record { identity = t.identity; key = t.key; numbers = raised limit t.numbers c to }

-- what an accepted attest says, and the numbers after it
pub record Accepted (limit : ℕ) (t : Trinket) (c to : ℕ) (matter : List ℕ) (room : ℕ) (s : SignedStatement) : Type 0 where
  pub within : c < 16
  pub rises : stands t c < to
  pub says : s ≡ signed t c (stands t c) to matter
  pub sets : (attested limit t c to room).numbers ≡ set t.numbers c to

pub attest_accepted : (limit : ℕ) (t : Trinket) (c to : ℕ) (matter : List ℕ) (room : ℕ) (s : SignedStatement) →
    attesting limit t c to matter room ≡ Ok s → Accepted limit t c to matter room s
attest_accepted limit t c to matter room s h =
    let room-test = past (ltb room 64) _ _ s h in
    let bank = below (raising limit t.numbers c to) (λ _. signed t c (stands t c) to matter) s room-test.1 in
    let counter-test = past (ltb 15 c) _ _ bank.0 bank.1 in
    let old-test = past (leb to (stands t c)) _ _ bank.0 counter-test.1 in
    record {
      within = omega (arith, ltb-false 15 c counter-test.0);
      rises = leb-false to (stands t c) old-test.0;
      says = sym bank.2;
      sets =
          ap (λ b. (cond b t (raised_trinket limit t c to)).numbers) room-test.0
          ∙ cond-true (is_ok (raising limit t.numbers c to)) (set t.numbers c to) t.numbers (ap is_ok bank.1);
    }

-- what an accepted status says
pub status_accepted : (t : Trinket) (c : ℕ) (nonce : List ℕ) (room : ℕ) (s : SignedStatement) →
    stating t c nonce room ≡ Ok s → s ≡ signed t c (stands t c) (stands t c) nonce
status_accepted t c nonce room s h =
    let room-test = past (ltb room 64) _ _ s h in
    let bank = below (telling t.numbers c) (λ n. signed t c n n nonce) s room-test.1 in
    sym bank.2 ∙ ap (λ n. signed t c n n nonce) (told t.numbers c bank.0 bank.1)

-- attest never lowers a number, accepted or refused
pub attest_raises : (limit : ℕ) (t : Trinket) (c to room k : ℕ) → stands t k ≤ stands (attested limit t c to room) k
attest_raises limit t c to room k =
    cond_both
    (ltb room 64)
    t
    (raised_trinket limit t c to)
    (λ u. stands t k ≤ stands u k)
    (λ _. omega arith)
    (λ _.
    cond_both
    (is_ok (raising limit t.numbers c to))
    (set t.numbers c to)
    t.numbers
    (λ ns. get_or t.numbers k 0 ≤ get_or ns k 0)
    (λ ok. set_raises t.numbers c to k (ok_rises limit t.numbers c to ok))
    (λ _. omega arith))

-- and leaves sixteen numbers
pub attest_whole : (limit : ℕ) (t : Trinket) (c to room : ℕ) → Whole t → Whole (attested limit t c to room)
attest_whole limit t c to room w =
    cond_both
    (ltb room 64)
    t
    (raised_trinket limit t c to)
    Whole
    (λ _. w)
    (λ _.
    record {
      identity_bytes = w.identity_bytes;
      key_bytes = w.key_bytes;
      sixteen =
          cond_both
          (is_ok (raising limit t.numbers c to))
          (set t.numbers c to)
          t.numbers
          (λ ns. length ns ≡ 16)
          (λ _. length-set t.numbers c to ∙ w.sixteen)
          (λ _. w.sixteen);
    })
