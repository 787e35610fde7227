-- What the first dongle is made of.
use Rattle.std.specs.Prelude.{ℕ, List}
use Rattle.dongle.specs.declared.first.FirstDongle.{FirstDongle}

-- its bank, its identity and its key
abbrev pub bank_in : {B : Type 0} → FirstDongle B → B
bank_in dongle = dongle.bank

abbrev pub identity_in : {B : Type 0} → FirstDongle B → List ℕ
identity_in dongle = dongle.signer.identity

abbrev pub key_in : {B : Type 0} → FirstDongle B → List ℕ
key_in dongle = dongle.signer.key
