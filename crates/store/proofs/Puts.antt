-- What put answers, test by test, and what its answer tells.
use Rattle.std.proofs.Common.{◌≡◌, Bool, true, false, List, [], ◌∷◌, ◌++◌, Ok, Err, refl, sym, ◌∙◌, arith}
use Rattle.std.proofs.lemmas.Grind.{common_steps}
use Rattle.notice.specs.declared.spans.Span.{Span}
use Rattle.notice.specs.Record.{counter_of, is_record, span_of}
use Rattle.store.specs.declared.fault.StoreFault.{StoreFault}
use Rattle.store.specs.declared.fault.StoreFault.TheVariants.{DoesNotFit}
use Rattle.store.specs.Meaning.{Bytes, any_meets, spanned, admitting, putting, after_put}

-- what admit answers, of what a store says of the record, is what put answers
pub admitting-putting :
    (fits : Bool) (held : List Bytes) (r : Bytes) {x : Bytes} {s : Span} {b f : Bool} → x ≡ r → s ≡ span_of x → b ≡ any_meets s held → f ≡ fits →
    admitting b f x ≡ putting fits held r
unfolding putting spanned
admitting-putting fits held r e g h k = rw (h, k, g, e) refl

module _ (fits : Bool) (held : List Bytes) (r : Bytes) where
  pub putting-full :
      is_record r ≡ true → spanned held r ≡ false → fits ≡ false → putting fits held r ≡ Err (DoesNotFit (counter_of r))
  unfolding putting
  putting-full h s f = rw (h, s, f) refl

  pub putting-fine : is_record r ≡ true → spanned held r ≡ false → fits ≡ true → putting fits held r ≡ Ok tt
  unfolding putting
  putting-fine h s f = rw (h, s, f) refl

  -- only a record that passed every test is put
  pub put-passed : putting fits held r ≡ Ok tt → (is_record r ≡ true) × (spanned held r ≡ false) × (fits ≡ true)
  unfolding putting
  put-passed e = grind (arith, common_steps)

  pub after-put-ok : putting fits held r ≡ Ok tt → after_put fits held r ≡ held ++ r ∷ []
  unfolding after_put
  after-put-ok e = rw e refl

  pub after-put-err : (x : StoreFault) → putting fits held r ≡ Err x → after_put fits held r ≡ held
  unfolding after_put
  after-put-err x e = rw e refl

-- what holds of a record that was admitted
pub record Admitted (fits : Bool) (held : List Bytes) (r : Bytes) : Type 0 where
  pub answers : Ok tt ≡ putting fits held r
  pub becomes : held ++ r ∷ [] ≡ after_put fits held r
  pub good : is_record r ≡ true
  pub free : spanned held r ≡ false
  pub fitting : fits ≡ true

-- what holds of a record that was refused
pub record Refused (fits : Bool) (held : List Bytes) (r : Bytes) (fault : StoreFault) : Type 0 where
  pub answers : Err fault ≡ putting fits held r
  pub becomes : held ≡ after_put fits held r

-- what admit answers, of what a store says of the record
module _
    (fits : Bool) (held : List Bytes) (r : Bytes) {x : Bytes} {s : Span} {b f : Bool} (parsed : x ≡ r) (span : s ≡ span_of x)
    (meets : b ≡ any_meets s held) (takes : f ≡ fits) where
  pub admitted : Ok tt ≡ admitting b f x → Admitted fits held r
  admitted e =
      let answers : Ok tt ≡ putting fits held r = e ∙ admitting-putting fits held r parsed span meets takes in
      let passed = put-passed fits held r (sym answers) in
      record {
        answers = answers;
        becomes = sym (after-put-ok fits held r (sym answers));
        good = passed.0;
        free = passed.1;
        fitting = passed.2;
      }

  pub refused : (fault : StoreFault) → Err fault ≡ admitting b f x → Refused fits held r fault
  refused fault e =
      let answers : Err fault ≡ putting fits held r = e ∙ admitting-putting fits held r parsed span meets takes in
      record { answers = answers; becomes = sym (after-put-err fits held r fault (sym answers)) }
