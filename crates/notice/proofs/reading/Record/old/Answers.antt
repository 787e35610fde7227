use Rattle.notice.specs.Record.{old_of}
use Rattle.notice.proofs.reading.Record.old.Goals as goal

pub returns : goal.returns
unfolding old_of
returns c = record { answers = c.number_at.ensures.answers }
