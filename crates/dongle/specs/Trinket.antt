-- What a dongle means: a trinket, which is an identity, a key and sixteen numbers, beside a limit.
use Rattle.std.specs.Prelude.{◌≡◌, ℕ, if◌then◌else◌, List, length, Ok, Err, Result, nat_lt, slice_index}
use Rattle.bank.specs.declared.fault.BankFault.{BankFault}
use Rattle.bank.specs.Bank.{counters, telling, raising, raised}
use Rattle.digest.specs.Hmac.{hmac}
use Rattle.digest.specs.Sizes.{block_size}
use Rattle.statement.specs.declared.types.Statement.{Statement}
use Rattle.statement.specs.declared.types.SignedStatement.{SignedStatement}
use Rattle.statement.specs.Layout.{encoded}
use Rattle.dongle.specs.declared.fault.DongleFault.{DongleFault}
use Rattle.dongle.specs.declared.fault.DongleFault.TheVariants.{ShortWorkingArea, Bank}

pub record Trinket : Type 0 where
  pub identity : List ℕ
  pub key : List ℕ
  pub numbers : List ℕ

-- an identity of 8 bytes, a key of 32, sixteen numbers
pub record Whole (t : Trinket) : Type 0 where
  pub identity_bytes : length t.identity ≡ 8
  pub key_bytes : length t.key ≡ 32
  pub sixteen : length t.numbers ≡ counters

-- the number at which a counter stands
abbrev pub stands : Trinket → ℕ → ℕ
stands t c = slice_index t.numbers c

-- what the trinket says of a counter that went from old to new, and that with its tag
abbrev pub statement_of : Trinket → ℕ → ℕ → ℕ → List ℕ → Statement
statement_of t c old new matter =
    record { identity = t.identity; counter = c; old = old; new = new; matter = matter }

abbrev pub signed : Trinket → ℕ → ℕ → ℕ → List ℕ → SignedStatement
signed t c old new matter =
    record {
      statement = statement_of t c old new matter;
      tag = hmac t.key (encoded (statement_of t c old new matter));
    }

-- a bank's refusal passed up whole, and an answer with what is said where there is none
abbrev pub passed_up : {A B : Type 0} → Result A BankFault → (A → B) → Result B DongleFault
passed_up (Ok x) f = Ok (f x)
passed_up (Err fault) f = Err (Bank fault)

-- a counter's number, told unsigned
abbrev pub valuing : Trinket → ℕ → Result ℕ DongleFault
valuing t c = passed_up (telling t.numbers c) (λ n. n)

-- what attest answers over a working area of the given room: first the area is looked at, then what the bank refuses
abbrev pub attesting : ℕ → Trinket → ℕ → ℕ → List ℕ → ℕ → Result SignedStatement DongleFault
attesting limit t c to matter room =
    if nat_lt room block_size then Err ShortWorkingArea
    else passed_up (raising limit t.numbers c to) (λ _. signed t c (stands t c) to matter)

-- the trinket after it: one counter is set, and a refusal changes nothing
abbrev pub attested : ℕ → Trinket → ℕ → ℕ → ℕ → Trinket
attested limit t c to room =
    if nat_lt room block_size then t
    else record { identity = t.identity; key = t.key; numbers = raised limit t.numbers c to }

-- what status answers: both numbers are the counter's, and the nonce is the matter
abbrev pub stating : Trinket → ℕ → List ℕ → ℕ → Result SignedStatement DongleFault
stating t c nonce room =
    if nat_lt room block_size then Err ShortWorkingArea
    else passed_up (telling t.numbers c) (λ n. signed t c n n nonce)
