use Rattle.std.proofs.Common.{◌≡◌, ℕ, ◌≤◌, List, Bor, length, Option, None, Some, IfSome, rules, tests}
use Rattle.std.specs.Option.{option_map}
use Rattle.std.proofs.lemmas.Iterator.Consumers.{YieldsList-from_first}
use Rattle.std.proofs.lemmas.Iterator.Search.{find_from_yields_List}
use Rattle.notice.specs.Limits.{record_limit}
use Rattle.notice.specs.Record.{covers}
use Rattle.store.specs.Meaning.{found}
use Rattle.logstore.specs.Log.{parse}
use Rattle.logstore.specs.declared.types.LogStore.{LogStore}
use Rattle.logstore.specs.LogStores.{log_held}
use Rattle.logstore.proofs.Images.{found_short}
use Rattle.logstore.proofs.types.LogStore.find.Goals as goal

pub returns-clause-answers : goal.returns-clause-answers
unfolding covers
returns-clause-answers c =
    find_from_yields_List (covers c.args.queue c.args.position) c.find.new.self _ c.find.result c.find.ensures.ran
    (YieldsList-from_first (λ x. x.now) (λ s. parse s.left s.bytes.now) {s = c.records.result} _ c.records.ensures.records) (λ x b q k. search (rules, tests))

short :
    (s : LogStore) (q p : ℕ) (o : Option (Bor (List ℕ))) → option_map (λ r. r.now) o ≡ found q p (log_held s) →
    IfSome o (λ r. length r.now ≤ record_limit)
short s q p None e = tt
short s q p (Some r) e = found_short s.area.now s.held.used s.held.count q p r.now s.sound e

pub returns-clause-short : goal.returns-clause-short
returns-clause-short c = short c.args.self.now c.args.queue c.args.position c.find.result (returns-clause-answers c)
