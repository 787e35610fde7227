-- The smallest log.
use Rattle.std.proofs.Common.{◌≡◌, ◌+◌, ◌-◌, true, false, eqb, [], length, refl, ap, arith}
use Rattle.std.proofs.lemmas.List.{length-drop}
use Rattle.std.proofs.lemmas.Bool.{and_parts, eqb-true}
use Rattle.notice.specs.Limits.{record_head}
use Rattle.notice.specs.Record.{size_of, text_of, is_record}
use Rattle.store.specs.Meaning.{Bytes, spanned}
use Rattle.store.proofs.Puts.{putting-fine, putting-full}
use Rattle.logstore.specs.Log.{log_takes}
use Rattle.logstore.specs.Examples.{smallest_log, EmptyTextFits116Bytes, EmptyTextRefusedIn115Bytes}

smallest : (r : Bytes) → is_record r ≡ true → text_of r ≡ [] → length r ≡ record_head
unfolding is_record text_of
smallest r g e =
    let a = and_parts (eqb (length r) (record_head + size_of r)) _ g in
    omega (arith, eqb-true (length r) (record_head + size_of r) a.0, ap length e, length-drop record_head r)

free : (r : Bytes) → spanned [] r ≡ false
unfolding spanned
free r = refl

pub empty_text_fits : EmptyTextFits116Bytes
empty_text_fits r g e = putting-fine (log_takes smallest_log [] (length r)) [] r g (free r) (ap (log_takes smallest_log []) (smallest r g e))

pub empty_text_refused : EmptyTextRefusedIn115Bytes
empty_text_refused r g e = putting-full (log_takes (smallest_log - 1) [] (length r)) [] r g (free r) (ap (log_takes (smallest_log - 1) []) (smallest r g e))
