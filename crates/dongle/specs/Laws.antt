-- What holds of every list of presses, over a dongle of any make, wherever its counters stand at first.
use Rattle.std.specs.Prelude.{◌≡◌, ℕ, ◌<◌, ◌≤◌, Contains, List, [], ◌∷◌, ◌++◌, Ok}
use Rattle.statement.specs.declared.types.SignedStatement.{SignedStatement}
use Rattle.dongle.specs.Trinket.{Trinket, Whole, stands}
use Rattle.dongle.specs.Presses.{Press, attest, status, reply, after, issued}

-- s tells of counter c, from old to new
pub record Tells (s : SignedStatement) (c old new : ℕ) (matter : List ℕ) : Type 0 where
  pub counter_is : s.statement.counter ≡ c
  pub old_is : s.statement.old ≡ old
  pub new_is : s.statement.new ≡ new
  pub matter_is : s.statement.matter ≡ matter

-- a position lies in the spans of both
pub record Meet (a b : SignedStatement) : Type 0 where
  pub counters : a.statement.counter ≡ b.statement.counter
  pub a_advances : a.statement.old < a.statement.new
  pub b_advances : b.statement.old < b.statement.new
  pub a_begins : a.statement.old < b.statement.new
  pub b_begins : b.statement.old < a.statement.new

pub record MonotonicWithoutEquivocation : Type 0 where
  -- a counter never falls
  pub never_falls : (limit : ℕ) (t : Trinket) (presses : List Press) (c : ℕ) →
      stands t c ≤ stands (after limit t presses) c
  -- an issued advance tells the counter before the press as old, and after it as new
  pub advance_tells_its_step : (limit : ℕ) (t : Trinket) → Whole t → (before : List Press) (c to : ℕ) (matter : List ℕ) (room : ℕ) (s : SignedStatement) →
      reply limit (after limit t before) (attest c to matter room) ≡ Ok s →
      Tells s c (stands (after limit t before) c) (stands (after limit t (before ++ attest c to matter room ∷ [])) c) matter
  -- and its press raised the counter
  pub advance_rises : (limit : ℕ) (t : Trinket) → Whole t → (before : List Press) (c to : ℕ) (matter : List ℕ) (room : ℕ) (s : SignedStatement) →
      reply limit (after limit t before) (attest c to matter room) ≡ Ok s →
      stands (after limit t before) c < stands (after limit t (before ++ attest c to matter room ∷ [])) c
  -- a status tells the number at its place in the list
  pub status_tells_its_place : (limit : ℕ) (t : Trinket) (before : List Press) (c : ℕ) (nonce : List ℕ) (room : ℕ) (s : SignedStatement) →
      reply limit (after limit t before) (status c nonce room) ≡ Ok s →
      Tells s c (stands (after limit t before) c) (stands (after limit t before) c) nonce
  -- two issued advances of one counter whose spans meet are the same statement
  pub no_equivocation : (limit : ℕ) (t : Trinket) → Whole t → (presses : List Press) (a b : SignedStatement) →
      Contains (issued limit t presses) a → Contains (issued limit t presses) b → Meet a b → a ≡ b
