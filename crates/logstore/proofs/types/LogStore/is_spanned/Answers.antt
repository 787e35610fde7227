use Rattle.std.proofs.Common.{rules, tests}
use Rattle.std.proofs.lemmas.Iterator.Consumers.{YieldsList-from_first}
use Rattle.std.proofs.lemmas.Iterator.Search.{any_from_yields_List}
use Rattle.store.specs.Meaning.{meets}
use Rattle.logstore.specs.Log.{parse}
use Rattle.logstore.proofs.types.LogStore.is_spanned.Goals as goal

pub returns : goal.returns
unfolding meets
returns c =
    record {
      answers =
          any_from_yields_List (meets c.args.span.now) c.any.new.self _ c.any.result c.any.ensures.ran
          (YieldsList-from_first (λ x. x.now) (λ s. parse s.left s.bytes.now) {s = c.records.result} _ c.records.ensures.records) (λ x b q k. search (rules, tests));
    }
