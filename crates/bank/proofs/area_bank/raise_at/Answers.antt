use Rattle.std.proofs.Common.{List, ℕ, sym, ap, ◌∙◌, subst}
use Rattle.bank.specs.Format.{Holds, numbers_by}
use Rattle.bank.proofs.FormatLaws.{usable_of, cut_within, cut_part, cut_written, number_in, numbers_by-next}
use Rattle.bank.proofs.area_bank.raise_at.Goals as goal

pub slice_bounds-raise-end : goal.slice_bounds-raise-end
slice_bounds-raise-end g c =
    let area = c.args.area.now in
    let u = usable_of g.F.Format.format area c.args.size c.requires.usable in
    cut_within g.F.Format.format area c.args.size _ c.args.counter c.requires.usable c.from.ensures (g.F.Format.sixteen area u.usable) c.requires.rises.counter

pub raise-requires-clause-from : goal.raise-requires-clause-from
raise-requires-clause-from g c =
    let f = g.F.Format.format in
    let area = c.args.area.now in
    let u = usable_of f area c.args.size c.requires.usable in
    c.requires.from ∙ number_in f area c.args.counter u.usable c.requires.rises.counter
    ∙ sym (ap f.number (cut_part f area c.args.size _ c.args.counter c.requires.usable c.from.ensures))

pub returns-clause-becomes : goal.returns-clause-becomes
returns-clause-becomes g c =
    let f = g.F.Format.format in
    let area = c.args.area.now in
    let s = c.args.size in
    let n = c.args.counter in
    let new = c.raise.new.part in
    let u = usable_of f area s c.requires.usable in
    let part = cut_part f area s c.from.result n c.requires.usable c.from.ensures in
    let holds = subst (λ (part : List ℕ). Holds f part c.args.to new) part c.raise.ensures.holds in
    ap (numbers_by f) (cut_written f area s c.from.result n c.requires.usable c.from.ensures new)
    ∙ numbers_by-next f area new n c.args.to (g.F.Format.sixteen area u.usable) u.usable c.requires.rises holds
