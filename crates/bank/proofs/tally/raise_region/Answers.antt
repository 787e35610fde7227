use Rattle.std.proofs.Common.{◌≡◌, ◌+◌, ◌-◌, ◌≤◌, ◌<◌, ◌++◌, length, get_or, take, drop, set, sym, ap, ◌∙◌, ap₂, arith}
use Rattle.std.proofs.lemmas.List.{set-get_or}
use Rattle.bank.specs.Tally.{bits, ones, raised_by}
use Rattle.bank.proofs.TallyLaws.{raised_more, raised_stops, raised_ends, raised_clears}
use Rattle.bank.proofs.tally.raise_region.Goals as goal

pub loop-byte-preserved : goal.loop-byte-preserved
loop-byte-preserved c =
    let region = c.loop-byte.region in
    let i = c.loop-byte.byte-index in
    let within : i < length region = omega arith in
    let none = sym (c.ones_in-ones.ensures.whole c.loop-byte.left c.if-ones-left.false) in
    ap₂ (λ v m. take (i + 1) (set region i v) ++ raised_by m (drop (i + 1) (set region i v))) none (ap (λ n. c.loop-byte.left - n) c.ones_in-ones.ensures.answers)
    ∙ raised_more c.loop-byte.left region i within ∙ c.loop-byte.invariant

pub returns-after-loop-byte-clause-area : goal.returns-after-loop-byte-clause-area
returns-after-loop-byte-clause-area c =
    let past : length c.loop-byte.region ≤ c.loop-byte.byte-index = omega arith in
    sym (raised_ends c.loop-byte.left c.loop-byte.region c.loop-byte.byte-index past) ∙ c.loop-byte.invariant

pub returns-after-loop-byte-clause-law : goal.returns-after-loop-byte-clause-law
returns-after-loop-byte-clause-law c = raised_clears c.args.by c.args.region.now c.loop-byte.region (returns-after-loop-byte-clause-area c)

pub returns-then-ones-left-clause-area : goal.returns-then-ones-left-clause-area
returns-then-ones-left-clause-area c =
    let region = c.loop-byte.region in
    let i = c.loop-byte.byte-index in
    let left = c.loop-byte.left in
    let byte = get_or region i 0 in
    let next = set region i c.clear_each.result in
    let within : i < length region = omega arith in
    let spent : left - ones (bits byte) ≡ 0 = omega (arith, c.ones_in-ones.ensures.answers, c.if-ones-left.true) in
    sym (raised_stops next (i + 1))
    ∙ ap (λ m. take (i + 1) next ++ raised_by m (drop (i + 1) next)) (sym spent)
    ∙ ap (λ v. take (i + 1) (set region i v) ++ raised_by (left - ones (bits byte)) (drop (i + 1) (set region i v))) c.clear_each.ensures.answers
    ∙ raised_more left region i within ∙ c.loop-byte.invariant

pub returns-then-ones-left-clause-law : goal.returns-then-ones-left-clause-law
returns-then-ones-left-clause-law c = raised_clears c.args.by c.args.region.now _ (returns-then-ones-left-clause-area c)

-- the byte at hand goes back as it is
pub returns-then-left-eq0-clause-area : goal.returns-then-left-eq0-clause-area
returns-then-left-eq0-clause-area c =
    let region = c.loop-byte.region in
    let i = c.loop-byte.byte-index in
    set-get_or region i 0 ∙ sym (raised_stops region i) ∙ ap (λ m. take i region ++ raised_by m (drop i region)) (sym c.if-left-eq0.true)
    ∙ c.loop-byte.invariant

pub returns-then-left-eq0-clause-law : goal.returns-then-left-eq0-clause-law
returns-then-left-eq0-clause-law c = raised_clears c.args.by c.args.region.now _ (returns-then-left-eq0-clause-area c)
