use Rattle.std.proofs.Common.{rules}
use Rattle.std.proofs.lemmas.Slice.{overwrites}
use Rattle.statement.proofs.area.put.Goals as goal

pub returns-then-size-area-clause-back : goal.returns-then-size-area-clause-back
returns-then-size-area-clause-back c = search (rules, overwrites)
