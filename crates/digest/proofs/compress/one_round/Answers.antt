use Rattle.digest.specs.Sha256.{round}
use Rattle.digest.proofs.compress.one_round.Goals as goal

pub returns : goal.returns
unfolding round
returns c = record { answers = cc }
