-- The words of a line are its parts round the spaces, without the empty ones.
use Rattle.std.proofs.Common.{◌≡◌, ℕ, Bool, true, false, not, ◌+◌, List, [], ◌∷◌, length, sym, refl, ap, ◌∙◌, ⊎_elim, one-add, arith}
use Rattle.std.specs.Prelude.{◌==◌, filter}
use Rattle.std.specs.List.{slice_split, onto_first}
use Rattle.std.proofs.lemmas.Bool.{eq-eqb, ne_eqb, cases_eq, cond-true, cond-false}
use Rattle.std.proofs.lemmas.Bool.Decides.{nat_tests}
use Rattle.std.proofs.lemmas.List.Splits.{slice_split-cons_yes, slice_split-cons_no}
use Rattle.script.specs.Words.{words_in}

abbrev pub is_space : ℕ → Bool
is_space c = c == 32

abbrev pub has_bytes : List ℕ → Bool
has_bytes part = not (length part == 0)

-- how many parts are words
abbrev pub full_parts : List (List ℕ) → ℕ
full_parts parts = length (filter has_bytes parts)

kept : (c : ℕ) (part : List ℕ) (parts : List (List ℕ)) → full_parts ((c ∷ part) ∷ parts) ≡ 1 + full_parts parts
kept c part parts =
    let full : has_bytes (c ∷ part) ≡ true = grind (arith, nat_tests) in
    ap length (cond-true _ _ _ full) ∙ sym (one-add (full_parts parts))

-- a byte more in front of a part that has one changes no count
longer : (c d : ℕ) (parts : List (List ℕ)) → full_parts (onto_first c (onto_first d parts)) ≡ full_parts (onto_first d parts)
longer c d [] = kept c (d ∷ []) [] ∙ sym (kept d [] [])
longer c d (part ∷ parts) = kept c (d ∷ part) parts ∙ sym (kept d part parts)

-- the parts of a line, where it stands alone, and where it goes on from a byte of a word
record Counted (line : List ℕ) : Type 0 where
  alone : full_parts (slice_split is_space line) ≡ words_in false line
  inside : (c : ℕ) → full_parts (onto_first c (slice_split is_space line)) ≡ 1 + words_in true line

counted : (line : List ℕ) → Counted line
counted [] = record { alone = refl; inside = λ c. kept c [] [] }
counted (d ∷ line) =
    ⊎_elim
    (λ e.
    let yes = eq-eqb d 32 e in
    record {
      alone = ap full_parts (slice_split-cons_yes is_space d line yes) ∙ (counted line).alone ∙ sym (cond-true _ _ _ yes);
      inside = λ c. ap (λ parts. full_parts (onto_first c parts)) (slice_split-cons_yes is_space d line yes)
          ∙ kept c [] (slice_split is_space line)
          ∙ ap (λ n. 1 + n) ((counted line).alone ∙ sym (cond-true _ _ _ yes));
    })
    (λ ne.
    let no = ne_eqb d 32 ne in
    let none : words_in true line ≡ 0 + words_in true line = omega arith in
    record {
      alone = ap full_parts (slice_split-cons_no is_space d line no) ∙ (counted line).inside d ∙ sym (cond-false _ _ _ no);
      inside = λ c. ap (λ parts. full_parts (onto_first c parts)) (slice_split-cons_no is_space d line no)
          ∙ longer c d (slice_split is_space line)
          ∙ (counted line).inside d
          ∙ ap (λ n. 1 + n) (none ∙ sym (cond-false _ _ _ no));
    })
    (cases_eq d 32)

pub words_counted : (line : List ℕ) → full_parts (slice_split is_space line) ≡ words_in false line
words_counted line = (counted line).alone
