use Rattle.std.proofs.Common.{◌++◌, replicate, vec_items, ap, ◌∙◌}
use Rattle.std.proofs.lemmas.List.{flat_map_more, replicate_more}
use Rattle.std.specs.List.{flat_map}
use Rattle.script.specs.Shown.{hex}
use Rattle.script.proofs.show.push_plain.Goals as goal

pub loop-i-preserved : goal.loop-i-preserved
loop-i-preserved c =
    let before = vec_items c.args.out.now in
    let byte = c.args.byte in
    let times = c.loop-i._i in
    c.in_ok-push_hex.ensures.area
    ∙ ap (λ bytes. bytes ++ hex byte) c.loop-i.invariant
    ∙ flat_map_more hex before (replicate times byte) byte
    ∙ ap (λ bytes. before ++ flat_map hex bytes) (replicate_more times byte)
