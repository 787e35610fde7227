-- The working area: what is wiped of it, and the verdict where there is room.
use Rattle.std.proofs.Common.{◌≡◌, ℕ, ◌<◌, ◌≤◌, List, ◌++◌, length, drop, replicate, arith}
use Rattle.std.proofs.lemmas.Bool.Decides.{nat_tests}
use Rattle.digest.specs.Wiped.{wiped}
use Rattle.reader.specs.declared.types.Question.{Question}
use Rattle.reader.specs.Verdict.{working_size, decided_on, verdict}

pub wiped_front :
    (area : List ℕ) → working_size ≤ length area → wiped area ≡ replicate working_size 0 ++ drop working_size area
unfolding wiped
wiped_front area roomy = grind (arith, nat_tests)

pub wiped_short : (area : List ℕ) → length area < working_size → wiped area ≡ area
unfolding wiped
wiped_short area short = grind (arith, nat_tests)

pub verdict_roomy :
    (identity key : List ℕ) (question : Question) (room : ℕ) (answer : List ℕ) → working_size ≤ room →
    verdict identity key question room answer ≡ decided_on identity key question answer
unfolding verdict
verdict_roomy identity key question room answer roomy = grind (arith, nat_tests)
