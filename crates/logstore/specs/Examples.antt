-- The smallest log: one record with an empty text takes 116 bytes.
use Rattle.std.specs.Prelude.{◌≡◌, ℕ, ◌-◌, true, [], length, Ok, Err}
use Rattle.notice.specs.Record.{counter_of, text_of, is_record}
use Rattle.store.specs.declared.fault.StoreFault.TheVariants.{DoesNotFit}
use Rattle.store.specs.Meaning.{Bytes, putting}
use Rattle.logstore.specs.Log.{log_takes}

-- the bytes of the smallest log that takes a record with an empty text
abbrev pub smallest_log : ℕ
smallest_log = 116

abbrev pub EmptyTextFits116Bytes : Type 0
EmptyTextFits116Bytes =
    (r : Bytes) → is_record r ≡ true → text_of r ≡ [] → putting (log_takes smallest_log [] (length r)) [] r ≡ Ok tt

abbrev pub EmptyTextRefusedIn115Bytes : Type 0
EmptyTextRefusedIn115Bytes =
    (r : Bytes) → is_record r ≡ true → text_of r ≡ [] →
    putting (log_takes (smallest_log - 1) [] (length r)) [] r ≡ Err (DoesNotFit (counter_of r))
