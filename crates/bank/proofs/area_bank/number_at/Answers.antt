use Rattle.std.proofs.Common.{sym, ap, ◌∙◌}
use Rattle.bank.proofs.FormatLaws.{usable_of, cut_within, cut_part, number_in}
use Rattle.bank.proofs.area_bank.number_at.Goals as goal

pub slice_bounds-number-end : goal.slice_bounds-number-end
slice_bounds-number-end g c =
    let area = c.args.area.now in
    let u = usable_of g.F.Format.format area c.args.size c.requires.usable in
    cut_within g.F.Format.format area c.args.size _ c.args.counter c.requires.usable c.from.ensures (g.F.Format.sixteen area u.usable) c.requires.counter

pub returns : goal.returns
returns g c =
    let f = g.F.Format.format in
    let area = c.args.area.now in
    let u = usable_of f area c.args.size c.requires.usable in
    record {
      answers =
          c.number.ensures.answers ∙ ap f.number (cut_part f area c.args.size _ c.args.counter c.requires.usable c.from.ensures)
          ∙ sym (number_in f area c.args.counter u.usable c.requires.counter);
    }
