-- Readers and the challenges that they draw.
use Rattle.std.specs.Prelude.{ℕ, Bool, false, if◌then◌else◌, List, Ok, Err, Result, ◌==◌, nat_lt}
use Rattle.reader.specs.declared.types.Asked.{Asked}
use Rattle.reader.specs.declared.types.Asked.TheVariants.{Position, End}
use Rattle.reader.specs.declared.types.Challenge.{Challenge}
use Rattle.reader.specs.declared.types.Reader.{Reader}
use Rattle.reader.specs.declared.fault.ReaderFault.{ReaderFault}
use Rattle.reader.specs.declared.fault.ReaderFault.TheVariants.{NoQueue, PositionZero}

abbrev pub reading : List ℕ → List ℕ → Reader
reading identity key = record { identity = identity; key = key }

abbrev pub asks_zero : Asked → Bool
asks_zero (Position p) = p == 0
asks_zero End = false

abbrev pub challenge : ℕ → Asked → List ℕ → Challenge
challenge queue asked nonce = record { question = record { queue = queue; asked = asked; nonce = nonce } }

abbrev pub highest_queue : ℕ
highest_queue = 7

-- queues are 0 to 7, and positions begin at 1
abbrev pub drawing : ℕ → Asked → List ℕ → Result Challenge ReaderFault
drawing queue asked nonce =
    if nat_lt highest_queue queue then Err (NoQueue queue)
    else if asks_zero asked then Err (PositionZero queue)
    else Ok (challenge queue asked nonce)
