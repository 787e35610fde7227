use Rattle.std.proofs.Common.{◌≡◌, length}
use Rattle.notice.specs.Limits.{record_limit}
use Rattle.speed.specs.Stores.{copied}
use Rattle.speed.proofs.stores.cover_all.Given as goal

abbrev pub invariant-loop-position : goal.invariant-loop-position
invariant-loop-position g l =
    record {
      room : length l.area ≡ record_limit;
      sum : l.bytes ≡ copied (g.S.Store.held l.store) l.position;
    }
