use Rattle.std.proofs.Common.{◌++◌, ap, sym, ◌∙◌, arith}
use Rattle.statement.specs.Layout.{decoded}
use Rattle.statement.proofs.Layouts.{decoded-encoded}
use Rattle.statement.proofs.front.StatementLayoutSTATEMENT_SIZE.decode.Goals as goal

pub returns-clause-front : goal.returns-clause-front
returns-clause-front c rest =
    ap (λ bytes. decoded (bytes ++ rest)) (sym c.from.ensures.back)
    ∙ decoded-encoded c.from.result rest (record { identity_bytes = omega arith; matter_bytes = omega arith })
