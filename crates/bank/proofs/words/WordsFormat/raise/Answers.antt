use Rattle.std.proofs.Common.{◌∙◌}
use Rattle.bank.proofs.Holding.{word_holds}
use Rattle.bank.proofs.words.WordsFormat.raise.Goals as goal

pub returns-clause-holds : goal.returns-clause-holds
returns-clause-holds c = word_holds _ _ _ c.requires.fits c.requires.within (c.copy_from_slice.ensures.after ∙ c.to_be_bytes.ensures)
