use Rattle.std.proofs.Common.{rules, tests, ◌∙◌}
use Rattle.std.proofs.lemmas.Iterator.Consumers.{YieldsList-at, YieldsList-from_filter, count_from_yields_List}
use Rattle.std.proofs.lemmas.Iterator.Splits.{YieldsList-from_slice_split}
use Rattle.script.proofs.Parts.{is_space, has_bytes, words_counted}
use Rattle.script.proofs.words.count_words.Goals as goal

pub returns : goal.returns
returns c =
    record {
      answers =
          count_from_yields_List
          c.filter.result
          _
          c.count.ensures.ran
          (YieldsList-from_filter
          _
          has_bytes
          (YieldsList-at
          c.filter.ensures.source
          (YieldsList-from_slice_split
          _
          is_space
          c.args.line.now
          c.split.ensures.rest
          c.split.ensures.done
          c.split.ensures.closure
          (λ x b q k. search (rules, tests))))
          c.filter.ensures.closure
          (λ x b q k. search (rules, tests)))
          ∙ words_counted c.args.line.now;
    }
