-- Part after part is put behind the last; the laws of the layout then say what the bytes tell.
use Rattle.std.proofs.Common.{◌≡◌, [], ◌∷◌, ◌++◌, replicate, sym, refl, ◌∙◌, append_assoc, arith}
use Rattle.std.proofs.lemmas.List.{take_all}
use Rattle.statement.specs.Layout.{encoded, decoded, Sized, statement_size}
use Rattle.statement.proofs.Parts.{grown}
use Rattle.statement.proofs.Layouts.{four_bytes, encoding_of, decoded-encoded}
use Rattle.statement.proofs.convert.ArrayU8STATEMENTSIZEFromStatement.from.Goals as goal

pub returns : goal.returns
unfolding encoded
returns c =
    let s = c.args.statement in
    let a1 = c.put.new.area in
    let a2 = c.put-2.new.area in
    let a3 = c.put-3.new.area in
    let a4 = c.put-4.new.area in
    let a5 = c.put-5.new.area in
    let o = c.to_be_bytes.ensures ∙ four_bytes s.old (omega arith) in
    let n = c.to_be_bytes-2.ensures ∙ four_bytes s.new (omega arith) in
    let f1 = grown 0 8 (replicate statement_size 0) a1 [] s.identity refl (omega arith) c.put.ensures.front (omega arith) in
    let f2 = grown 8 1 a1 a2 _ (s.counter ∷ []) f1 refl c.put-2.ensures.front (omega arith) in
    let f3 = grown 9 4 a2 a3 _ c.to_be_bytes.result f2 (omega arith) c.put-3.ensures.front (omega arith) in
    let f4 = grown 13 4 a3 a4 _ c.to_be_bytes-2.result f3 (omega arith) c.put-4.ensures.front (omega arith) in
    let f5 = grown 17 32 a4 a5 _ s.matter f4 (omega arith) c.put-5.ensures.front (omega arith) in
    let e : (((s.identity ++ (s.counter ∷ [])) ++ c.to_be_bytes.result) ++ c.to_be_bytes-2.result) ++ s.matter ≡ encoded s = rw (o, n) (simp append_assoc) in
    let written = sym (take_all statement_size a5 (omega arith)) ∙ (f5 ∙ e) in
    encoding_of encoded decoded Sized decoded-encoded s a5 (record { identity_bytes = omega arith; matter_bytes = omega arith }) written
