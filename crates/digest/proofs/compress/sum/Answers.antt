use Rattle.std.proofs.Common.{◌≡◌, map, length, get_or, sym, ap, ◌∙◌, rules}
use Rattle.std.specs.List.{range_with_len}
use Rattle.std.proofs.lemmas.List.FromFn.{fill_by_all}
use Rattle.digest.specs.Words.{Words, ◌⊞◌}
use Rattle.digest.specs.Sha256.{summed}
use Rattle.digest.proofs.Listed.{listed}
use Rattle.digest.proofs.compress.sum.Goals as goal

pub returns : goal.returns
unfolding summed
returns c =
    let e : length c.args.x ≡ 8 = search rules in
    let f : length c.args.y ≡ 8 = search rules in
    let xs : Words = map (λ i. get_or c.args.x i 0) (range_with_len 0 8) in
    let all = fill_by_all (λ i. get_or c.args.x i 0 ⊞ get_or c.args.y i 0) c.from_fn.result 8 0 c.from_fn.ensures.items.long
    (λ k h. let called = c.from_fn.ensures.items.at k 0 h in search rules) in
    record {
      answers = all ∙ sym (ap (λ x. summed x c.args.y) (listed 8 c.args.x e) ∙ ap (summed xs) (listed 8 c.args.y f));
    }
