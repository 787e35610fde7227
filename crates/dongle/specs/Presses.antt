-- Lists of presses: what each answers, and the trinket after it.
use Rattle.std.specs.Prelude.{ℕ, List, [], ◌∷◌, ◌++◌, Ok, Err, Result}
use Rattle.statement.specs.declared.types.SignedStatement.{SignedStatement}
use Rattle.dongle.specs.declared.fault.DongleFault.{DongleFault}
use Rattle.dongle.specs.Trinket.{Trinket, attesting, attested, stating}

-- a press: attest or status, with its arguments and the room of its working area
pub data Press : Type 0 where
  attest : (counter to : ℕ) (matter : List ℕ) (room : ℕ) → Press
  status : (counter : ℕ) (nonce : List ℕ) (room : ℕ) → Press

unfoldable pub reply : ℕ → Trinket → Press → Result SignedStatement DongleFault
reply limit t (attest c to matter room) = attesting limit t c to matter room
reply limit t (status c nonce room) = stating t c nonce room

unfoldable pub pressed : ℕ → Trinket → Press → Trinket
pressed limit t (attest c to matter room) = attested limit t c to room
pressed limit t (status c nonce room) = t

-- the signed statement that a reply holds, if any
abbrev pub said : Result SignedStatement DongleFault → List SignedStatement
said (Ok s) = s ∷ []
said (Err fault) = []

-- the trinket after a list of presses, and what they issued, in their order
unfoldable pub after : ℕ → Trinket → List Press → Trinket
after limit t [] = t
after limit t (p ∷ ps) = after limit (pressed limit t p) ps

unfoldable pub issued : ℕ → Trinket → List Press → List SignedStatement
issued limit t [] = []
issued limit t (p ∷ ps) = said (reply limit t p) ++ issued limit (pressed limit t p) ps
