use Rattle.std.proofs.Common.{◌≡◌, ◌+◌, ◌∷◌, [], ◌++◌, length, refl, sym, subst, arith}
use Rattle.std.proofs.lemmas.Bool.{leb-true}
use Rattle.logstore.specs.Log.{length_size, log_space, parse, SoundLog}
use Rattle.logstore.specs.LogStores.{log_held}
use Rattle.logstore.proofs.Images.{appended, few}
use Rattle.logstore.proofs.types.LogStore.append.Goals as goal

pub with-self-requires-clause-count : goal.with-self-requires-clause-count
with-self-requires-clause-count c =
    let s = c.args.self.now in
    omega (arith, few s.area.now s.held.used s.held.count s.sound)

pub invariant_of-self : goal.invariant_of-self
invariant_of-self c =
    let s = c.args.self.now in
    let r = c.args.record.now in
    let fits = leb-true (s.held.used + (length_size + length r)) (log_space (length s.area.now)) c.requires.fits in
    let e = appended s.area.now c.lay.new.area s.held.used s.held.count _ r s.sound refl (omega arith) c.requires.good c.requires.free fits c.lay.ensures.area in
    record { sound = subst (λ h. SoundLog c.lay.new.area h.used h.count) (sym c.with-self.ensures.answers) e.0 }

pub returns-clause-becomes : goal.returns-clause-becomes
returns-clause-becomes c =
    let s = c.args.self.now in
    let r = c.args.record.now in
    let fits = leb-true (s.held.used + (length_size + length r)) (log_space (length s.area.now)) c.requires.fits in
    let e = appended s.area.now c.lay.new.area s.held.used s.held.count _ r s.sound refl (omega arith) c.requires.good c.requires.free fits c.lay.ensures.area in
    subst (λ h. parse h.count c.lay.new.area ≡ log_held s ++ r ∷ []) (sym c.with-self.ensures.answers) e.1
