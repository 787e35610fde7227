use Rattle.std.proofs.Common.{filter, refl, sym, subst, arith}
use Rattle.std.specs.List.Sorted.{IsPermutation}
use Rattle.std.proofs.lemmas.List.Sorted.{IsPermutation-refl}
use Rattle.store.specs.Meaning.{stays}
use Rattle.logstore.specs.LogStores.{log_held}
use Rattle.logstore.proofs.Images.{sound_layout, left_out}
use Rattle.logstore.proofs.calls.LogStoreStore.forget.Goals as goal

pub compact-self-requires-clause-lies : goal.compact-self-requires-clause-lies
compact-self-requires-clause-lies c =
    let s = c.args.self.now in
    sound_layout s.area.now s.held.used s.held.count s.sound

pub invariant_of-self : goal.invariant_of-self
invariant_of-self c =
    let s = c.args.self.now in
    let k = c.compact-self.ensures in
    let e = left_out (stays c.args.queue c.args.below) s.area.now c.compact-self.new.area s.held.used s.held.count c.compact-self.result.used c.compact-self.result.count _ s.sound refl (omega arith) k.area k.used k.count k.less in
    record { sound = e.0 }

pub returns-clause-order : goal.returns-clause-order
returns-clause-order c =
    let s = c.args.self.now in
    let k = c.compact-self.ensures in
    (left_out (stays c.args.queue c.args.below) s.area.now c.compact-self.new.area s.held.used s.held.count c.compact-self.result.used c.compact-self.result.count _ s.sound refl (omega arith) k.area k.used k.count k.less).1

pub returns-clause-becomes : goal.returns-clause-becomes
returns-clause-becomes c =
    let kept = filter (stays c.args.queue c.args.below) (log_held c.args.self.now) in
    subst (IsPermutation kept) (sym (returns-clause-order c)) (IsPermutation-refl kept)
