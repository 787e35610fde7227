-- An area that is wiped and then wiped again.
use Rattle.std.proofs.Common.{◌≡◌, List, ℕ, ap, ◌∙◌}
use Rattle.digest.specs.Wiped.{wiped}
use Rattle.digest.proofs.Wiped.{wiped_twice}

pub wiped_again : (before between after : List ℕ) → between ≡ wiped before → after ≡ wiped between → after ≡ wiped before
wiped_again before between after e f = f ∙ ap wiped e ∙ wiped_twice before
