use Rattle.std.proofs.Common.{[], ◌++◌, replicate, sym, refl, ap, ◌∙◌, arith}
use Rattle.std.proofs.lemmas.List.{take_all}
use Rattle.statement.specs.Layout.{encoded_signed, decoded_signed, SizedSigned, statement_size, signed_statement_size}
use Rattle.statement.proofs.Parts.{grown}
use Rattle.statement.proofs.Layouts.{encoding_of, decoded-encoded_signed}
use Rattle.statement.proofs.convert.ArrayU8SIGNEDSTATEMENTSIZEFromSignedStatement.from.Goals as goal

pub returns : goal.returns
unfolding encoded_signed
returns c =
    let s = c.args.signed in
    let front = c.into-front in
    let a1 = c.put.new.area in
    let a2 = c.put-2.new.area in
    let f1 = grown 0 statement_size (replicate signed_statement_size 0) a1 [] front.result refl (omega arith) c.put.ensures.front (omega arith) in
    let f2 = grown statement_size 32 a1 a2 front.result s.tag f1 (omega arith) c.put-2.ensures.front (omega arith) in
    let written = sym (take_all signed_statement_size a2 (omega arith)) ∙ (f2 ∙ ap (λ z. z ++ s.tag) front.ensures.answers) in
    encoding_of encoded_signed decoded_signed SizedSigned decoded-encoded_signed s a2 (record { sized = front.ensures.sized; tag_bytes = omega arith }) written
