use Rattle.store.proofs.Histories.{found_until_forgotten, nothing_else_found, set_decides}
use Rattle.store.proofs.laws.found_while_put_and_not_forgotten.Goals as goal

pub returns : goal.returns
returns c = record { found = found_until_forgotten; alone = nothing_else_found; set = set_decides }
