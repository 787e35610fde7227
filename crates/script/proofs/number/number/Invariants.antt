use Rattle.std.proofs.Common.{◌≡◌, ◌≤◌, drop, fold}
use Rattle.script.specs.Numbers.{decimal_value, digit_more}
use Rattle.script.proofs.number.number.Given as goal

abbrev pub invariant-loop-c : goal.invariant-loop-c
invariant-loop-c l =
    (l.value ≤ l.most) × (fold digit_more l.value (drop l.c-index l.word) ≡ decimal_value l.word)
