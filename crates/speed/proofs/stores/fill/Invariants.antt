use Rattle.std.proofs.Common.{◌≡◌, ◌/◌, List, length}
use Rattle.std.specs.Simd.{first_chunks}
use Rattle.std.specs.Slice.Iter.{chunks_exact_rest, chunks_exact_size}
use Rattle.store.specs.Meaning.{Bytes}
use Rattle.speed.specs.Stores.{Fills}
use Rattle.speed.proofs.stores.fill.Given as goal

-- putting the records that are left leads to what putting all of them does
abbrev pub invariant-loop-record : goal.invariant-loop-record
invariant-loop-record g l =
    record {
      size : chunks_exact_size l.record-iterator ≡ l.size;
      left :
          (after : List Bytes) →
          Fills (g.S.Store.held l.store) (first_chunks l.size (length (chunks_exact_rest l.record-iterator) / l.size) (chunks_exact_rest l.record-iterator)) after →
          Fills (g.S.Store.held l.fn.store) (first_chunks l.size (length l.records / l.size) l.records) after;
    }
