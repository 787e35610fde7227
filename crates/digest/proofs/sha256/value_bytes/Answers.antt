use Rattle.std.proofs.Common.{◌≡◌, List, [], length, get_or, sym, ap, ◌∙◌, rules}
use Rattle.std.specs.List.{flat_map}
use Rattle.std.proofs.lemmas.List.FromFn.{fill_by_all}
use Rattle.digest.specs.Bytes.{Bytes, bytes4}
use Rattle.digest.proofs.Listed.{listed}
use Rattle.digest.proofs.sha256.value_bytes.Goals as goal

pub returns : goal.returns
returns c =
    let e : length c.args.value ≡ 8 = search rules in
    let join : List Bytes → Bytes = flat_map (λ x. x) in
    let words = fill_by_all (λ k. bytes4 (get_or c.args.value k 0)) c.map-words.result 8 [] c.map-words.ensures.items.long
    (λ k h. let called = c.map-words.ensures.items.at k 0 [] h in search rules) in
    let whole : c.unwrap.result.now ≡ c.as_flattened.result.now = search rules in
    record {
      answers = whole ∙ c.as_flattened.ensures.value ∙ ap join words ∙ sym (ap (flat_map bytes4) (listed 8 c.args.value e));
    }
