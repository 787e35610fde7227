-- The rules that an answer has to keep, each over all its statements. A rule says nothing, or why it refuses.
use Rattle.std.specs.Prelude.{ℕ, ◌+◌, ◌*◌, Bool, if◌then◌else◌, ◌&&◌, List, Some, None, Ok, Err, Option, Result, ◌==◌, nat_lt}
use Rattle.std.specs.Str.{bytes_eq}
use Rattle.digest.specs.Sha256.{sha256}
use Rattle.digest.specs.Hmac.{hmac}
use Rattle.statement.specs.declared.types.Statement.{Statement}
use Rattle.statement.specs.declared.types.SignedStatement.{SignedStatement}
use Rattle.statement.specs.Layout.{encoded, is_advance, is_status}
use Rattle.notice.specs.Input.{digest_input}
use Rattle.reader.specs.declared.fault.ReaderFault.{ReaderFault}
use Rattle.reader.specs.declared.fault.ReaderFault.TheVariants.{WrongTag, WrongOrigin, WrongNonce, WrongNumbers, WrongDigest}
use Rattle.reader.specs.declared.evidence.Evidence.{Evidence}
use Rattle.reader.specs.declared.evidence.Evidence.TheVariants.{Found, Skipped, Forgotten, NotYet, End, EndOfEmpty}
use Rattle.reader.specs.Evidence.{first_of, second_of, status_of}

abbrev pub Said : Type 0
Said = Result (Unit {0}) ReaderFault

-- nothing where the test holds, and else the refusal
abbrev pub demanded : Bool → ReaderFault → Said
demanded holds fault = if holds then Ok tt else Err fault

infixl 10 ◌>>=◌
-- what comes next is tried where nothing was refused
abbrev pub ◌>>=◌ : {X Y : Type 0} → Result X ReaderFault → (X → Result Y ReaderFault) → Result Y ReaderFault
(Ok x) >>= next = next x
(Err fault) >>= next = Err fault

abbrev pub on_second : (SignedStatement → ℕ → Said) → Option SignedStatement → Said
on_second rule None = Ok tt
on_second rule (Some s) = rule s 1

-- a rule over all statements, which are counted from 0
abbrev pub each : (SignedStatement → ℕ → Said) → Evidence → Said
each rule evidence = do
  _ ← rule (first_of evidence) 0
  on_second rule (second_of evidence)

-- the tag is that of the statement under the key
abbrev pub signed_right : List ℕ → SignedStatement → Bool
signed_right key s = bytes_eq s.tag (hmac key (encoded s.statement))

abbrev pub tag_rule : List ℕ → SignedStatement → ℕ → Said
tag_rule key s i = demanded (signed_right key s) (WrongTag i)

abbrev pub tags : List ℕ → Evidence → Said
tags key evidence = each (tag_rule key) evidence

-- the forgotten are shown by the low counter of the queue, all else by the high one
abbrev pub counter_for : ℕ → Evidence → ℕ
counter_for queue (Found advance previous) = 2 * queue + 1
counter_for queue (Skipped advance) = 2 * queue + 1
counter_for queue (Forgotten status) = 2 * queue
counter_for queue (NotYet status) = 2 * queue + 1
counter_for queue (End status advance previous) = 2 * queue + 1
counter_for queue (EndOfEmpty status) = 2 * queue + 1

-- the statement is of the dongle and of the counter
abbrev pub origin_right : List ℕ → ℕ → Statement → Bool
origin_right identity counter s = bytes_eq s.identity identity && s.counter == counter

abbrev pub origin_rule : List ℕ → ℕ → SignedStatement → ℕ → Said
origin_rule identity counter s i = demanded (origin_right identity counter s.statement) (WrongOrigin i)

abbrev pub origins : List ℕ → ℕ → Evidence → Said
origins identity queue evidence = each (origin_rule identity (counter_for queue evidence)) evidence

-- a status is made for one challenge: its matter is the nonce
abbrev pub nonce_rule : List ℕ → SignedStatement → Said
nonce_rule nonce s = demanded (bytes_eq s.statement.matter nonce) (WrongNonce 0)

abbrev pub on_status : (SignedStatement → Said) → Option SignedStatement → Said
on_status rule None = Ok tt
on_status rule (Some status) = rule status

abbrev pub nonces : List ℕ → Evidence → Said
nonces nonce evidence = on_status (nonce_rule nonce) (status_of evidence)

-- what the numbers show of a position
abbrev pub found_at : ℕ → Statement → Bool
found_at p s = is_advance s && s.new == p

abbrev pub skips : ℕ → Statement → Bool
skips p s = is_advance s && (nat_lt s.old p && nat_lt p s.new)

abbrev pub stands_above : ℕ → Statement → Bool
stands_above p s = is_status s && nat_lt p s.new

abbrev pub stands_below : ℕ → Statement → Bool
stands_below p s = is_status s && nat_lt s.new p

abbrev pub stands_at_zero : Statement → Bool
stands_at_zero s = is_status s && s.new == 0

-- an end shows that the number is at least 1, and the advance that led to it
abbrev pub end_numbers : Statement → Statement → Said
end_numbers status advance = do
  _ ← demanded (stands_above 0 status) (WrongNumbers 0)
  demanded (found_at status.new advance) (WrongNumbers 1)

abbrev pub numbers : ℕ → Evidence → Said
numbers p (Found advance previous) = demanded (found_at p advance.statement) (WrongNumbers 0)
numbers p (Skipped advance) = demanded (skips p advance.statement) (WrongNumbers 0)
numbers p (Forgotten status) = demanded (stands_above p status.statement) (WrongNumbers 0)
numbers p (NotYet status) = demanded (stands_below p status.statement) (WrongNumbers 0)
numbers p (End status advance previous) = end_numbers status.statement advance.statement
numbers p (EndOfEmpty status) = demanded (stands_at_zero status.statement) (WrongNumbers 0)

-- the digest rule: the advance's matter is the digest of queue, old, new, previous digest and text
abbrev pub digest_right : ℕ → Statement → List ℕ → List ℕ → Bool
digest_right queue s previous text = bytes_eq s.matter (sha256 (digest_input queue s.old s.new previous text))

abbrev pub digests : ℕ → List ℕ → Evidence → Said
digests queue text (Found advance previous) = demanded (digest_right queue advance.statement previous text) (WrongDigest 0)
digests queue text (Skipped advance) = Ok tt
digests queue text (Forgotten status) = Ok tt
digests queue text (NotYet status) = Ok tt
digests queue text (End status advance previous) = demanded (digest_right queue advance.statement previous text) (WrongDigest 1)
digests queue text (EndOfEmpty status) = Ok tt
