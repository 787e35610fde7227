use Rattle.logstore.proofs.Smallest.{empty_text_fits, empty_text_refused}
use Rattle.logstore.proofs.examples.smallest_log_is_116_bytes.Goals as goal

pub returns : goal.returns
returns c = record { fits = empty_text_fits; refused = empty_text_refused }
