use Rattle.std.proofs.Common.{rules, ◌≡◌, take, drop, subst, arith}
use Rattle.statement.specs.Layout.{IsDecoding, encoded, decoded}
use Rattle.statement.proofs.Layouts.{signed_decoding_of}
use Rattle.statement.proofs.convert.SignedStatementFromRefArrayU8SIGNEDSTATEMENTSIZE.from.Goals as goal

pub returns : goal.returns
returns c =
    let b = c.args.bytes.now in
    let s : c.unwrap.result.0.now ≡ take 49 b = search rules in
    let t : c.unwrap-2.result.0.now ≡ take 32 (drop 49 b) = search rules in
    signed_decoding_of b _ (subst (λ x. IsDecoding encoded decoded x c.from.result) s c.from.ensures) t (omega arith) (record { identity_bytes = omega arith; matter_bytes = omega arith })
