use Rattle.std.proofs.Common.{rules, ◌≡◌, ◌≤◌, length, take}
use Rattle.statement.proofs.Layouts.{front_read}
use Rattle.statement.proofs.front.Layout.read.Goals as goal

pub returns : goal.returns
returns g c =
    let p = c.args.part.now in
    let long : g.row.N ≤ length p = search rules in
    let cut : c.in_ok-bytes.bytes.now ≡ take g.row.N p = search rules in
    record { answers = front_read g.row.N g.Self.Layout.decoded p c.in_ok-bytes.bytes.now c.decode.result long cut c.decode.ensures.front }
