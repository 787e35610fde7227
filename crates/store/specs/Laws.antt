-- What holds of every store over any calls: a record that was put is found at each position that it spans until it is
-- forgotten, nothing else is ever found there, and only the set of records decides.
use Rattle.std.specs.Prelude.{◌≡◌, ℕ, Bool, true, ◌&&◌, List, [], ◌∷◌, ◌++◌, Some, Ok, filter}
use Rattle.std.specs.List.Sorted.{IsPermutation}
use Rattle.notice.specs.Record.{covers}
use Rattle.store.specs.Meaning.{Bytes, Apart, putting, found, stays}

-- a call that changed a store: a record put and not refused, or records of a queue forgotten below a number
pub data Change : Type 0 where
  added : Bytes → Change
  forgot : ℕ → ℕ → Change

-- the changes lead from one list of records to another
abbrev pub Leads : List Bytes → List Change → List Bytes → Type 0
Leads held [] after = held ≡ after
Leads held (added r ∷ cs) after = (fits : Bool) × (putting fits held r ≡ Ok tt) × Leads (held ++ r ∷ []) cs after
Leads held (forgot q n ∷ cs) after = (next : List Bytes) × IsPermutation (filter (stays q n) held) next × Leads next cs after

-- no change forgets the record
abbrev pub outlives : List Change → Bytes → Bool
outlives [] r = true
outlives (added s ∷ cs) r = outlives cs r
outlives (forgot q n ∷ cs) r = stays q n r && outlives cs r

-- the record was put, and no later change forgets it
pub record WasPut (changes : List Change) (r : Bytes) : Type 0 where
  pub before : List Change
  pub later : List Change
  pub put : changes ≡ before ++ added r ∷ later
  pub kept : outlives later r ≡ true

abbrev pub FoundUntilForgotten : Type 0
FoundUntilForgotten =
    (before later : List Change) (r : Bytes) (held : List Bytes) (q p : ℕ) →
    Leads [] (before ++ added r ∷ later) held → outlives later r ≡ true → covers q p r ≡ true → found q p held ≡ Some r

abbrev pub NothingElseFound : Type 0
NothingElseFound =
    (changes : List Change) (held : List Bytes) (q p : ℕ) (r : Bytes) →
    Leads [] changes held → found q p held ≡ Some r → WasPut changes r × (covers q p r ≡ true)

abbrev pub SetDecides : Type 0
SetDecides = (rs ss : List Bytes) (q p : ℕ) → Apart rs → IsPermutation rs ss → found q p rs ≡ found q p ss
