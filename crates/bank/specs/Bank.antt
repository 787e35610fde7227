-- What a bank means: sixteen numbers and a limit that none of them exceeds.
use Rattle.std.specs.Prelude.{◌≡◌, ℕ, ◌<◌, ◌≤◌, ◌↔◌, if◌then◌else◌, List, length, false, is_ok, IsOk, Ok, Err, Result, ◌≢◌, nat_le, nat_lt, slice_index, slice_set}
use Rattle.bank.specs.declared.fault.BankFault.{BankFault}
use Rattle.bank.specs.declared.fault.BankFault.TheVariants.{NoCounter, NotHigher, AboveLimit}

-- How many counters a bank has, and the last of them.
abbrev pub counters : ℕ
counters = 16

abbrev pub last_counter : ℕ
last_counter = 15

-- The highest limit that a bank may have.
abbrev pub highest_limit : ℕ
highest_limit = 4000000000

-- There are sixteen numbers, none above the limit, and the limit is at most the highest.
pub record Sound (numbers : List ℕ) (limit : ℕ) : Type 0 where
  pub sixteen : length numbers ≡ counters
  pub within : (c : ℕ) → c < counters → slice_index numbers c ≤ limit
  pub most : limit ≤ highest_limit

-- A counter's number, told to whoever asks for one of the sixteen.
abbrev pub telling : List ℕ → ℕ → Result ℕ BankFault
telling numbers c = if nat_lt c counters then Ok (slice_index numbers c) else Err (NoCounter c)

-- What a raise of counter c from its old number to a new one answers: the first refusal that is due, or that it is done.
abbrev pub rising : ℕ → ℕ → ℕ → ℕ → Result (Unit {0}) BankFault
rising limit old c to = if nat_le to old then Err (NotHigher c) else if nat_lt limit to then Err (AboveLimit c) else Ok tt

-- The same, asked of the numbers of a bank.
abbrev pub raising : ℕ → List ℕ → ℕ → ℕ → Result (Unit {0}) BankFault
raising limit numbers c to = if nat_lt last_counter c then Err (NoCounter c) else rising limit (slice_index numbers c) c to

-- The numbers after it: the one counter is set, and a refusal changes nothing.
abbrev pub raised : ℕ → List ℕ → ℕ → ℕ → List ℕ
raised limit numbers c to = if is_ok (raising limit numbers c to) then slice_set numbers c to else numbers

-- What a raise has to meet: one of the sixteen counters, and a number that is higher than its own and within the limit.
pub record MayRaise (limit : ℕ) (numbers : List ℕ) (c to : ℕ) : Type 0 where
  pub counter : c < counters
  pub higher : slice_index numbers c < to
  pub within : to ≤ limit

-- What a raise does to a sound bank: which are accepted, what is set, what stays, and that the bank stays sound.
pub record Raise (limit : ℕ) (numbers : List ℕ) (c to : ℕ) : Type 0 where
  pub accepts : IsOk (raising limit numbers c to) ↔ MayRaise limit numbers c to
  pub sets : IsOk (raising limit numbers c to) → slice_index (raised limit numbers c to) c ≡ to
  pub others : (k : ℕ) → (k ≢ c) → slice_index (raised limit numbers c to) k ≡ slice_index numbers k
  pub refuses : is_ok (raising limit numbers c to) ≡ false → raised limit numbers c to ≡ numbers
  pub sound : Sound (raised limit numbers c to) limit

abbrev pub RaisesByRule : Type 0
RaisesByRule = (limit : ℕ) (numbers : List ℕ) (c to : ℕ) → Sound numbers limit → Raise limit numbers c to
