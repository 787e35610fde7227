use Rattle.std.proofs.Common.{rules, ◌≡◌, take, drop, ◌∷◌, ◌∙◌, ap, arith}
use Rattle.std.proofs.lemmas.List.{drop-drop}
use Rattle.statement.proofs.Layouts.{decoding_of, first_behind}
use Rattle.statement.proofs.convert.StatementFromRefArrayU8STATEMENTSIZE.from.Goals as goal

pub returns : goal.returns
returns c =
    let b = c.args.bytes.now in
    let i : c.unwrap.result.0.now ≡ take 8 b = search rules in
    let r1 : c.unwrap.result.1.now ≡ drop 8 b = search rules in
    let f : c.unwrap.result.1.now ≡ c.unwrap-2.result.0.now ∷ c.unwrap-2.result.1.now = search rules in
    let k = first_behind 8 b _ _ _ r1 f in
    let o : c.unwrap-3.result.0.now ≡ take 4 c.unwrap-2.result.1.now = search rules in
    let r3 : c.unwrap-3.result.1.now ≡ drop 4 c.unwrap-2.result.1.now = search rules in
    let n : c.unwrap-4.result.0.now ≡ take 4 c.unwrap-3.result.1.now = search rules in
    let r4 : c.unwrap-4.result.1.now ≡ drop 4 c.unwrap-3.result.1.now = search rules in
    let m : c.unwrap-5.result.0.now ≡ take 32 c.unwrap-4.result.1.now = search rules in
    let past9 : drop 4 (drop 9 b) ≡ drop 13 b = drop-drop 4 9 b in
    let past13 : drop 4 (drop 13 b) ≡ drop 17 b = drop-drop 4 13 b in
    let at13 : c.unwrap-3.result.1.now ≡ drop 13 b = r3 ∙ (ap (drop 4) k.1 ∙ past9) in
    let at17 : c.unwrap-4.result.1.now ≡ drop 17 b = r4 ∙ (ap (drop 4) at13 ∙ past13) in
    decoding_of b _ c.unwrap-3.result.0.now c.unwrap-4.result.0.now (omega arith) c.fits-bytes i k.0 c.from_be_bytes.ensures (o ∙ ap (take 4) k.1) c.from_be_bytes-2.ensures (n ∙ ap (take 4) at13) (m ∙ ap (take 32) at17)
