use Rattle.notice.specs.Record.{new_of}
use Rattle.notice.proofs.reading.Record.new.Goals as goal

pub returns : goal.returns
unfolding new_of
returns c = record { answers = c.number_at.ensures.answers }
