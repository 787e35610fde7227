use Rattle.std.proofs.Common.{◌++◌, ap, sym, ◌∙◌, arith}
use Rattle.statement.specs.Layout.{decoded_signed}
use Rattle.statement.proofs.Layouts.{decoded-encoded_signed}
use Rattle.statement.proofs.front.SignedStatementLayoutSIGNED_STATEMENT_SIZE.decode.Goals as goal

pub returns-clause-front : goal.returns-clause-front
returns-clause-front c rest =
    ap (λ bytes. decoded_signed (bytes ++ rest)) (sym c.from.ensures.back)
    ∙ decoded-encoded_signed c.from.result rest (record { sized = record { identity_bytes = omega arith; matter_bytes = omega arith }; tag_bytes = omega arith })
