-- What a word says as a number, case by case.
use Rattle.std.proofs.Common.{◌≡◌, ℕ, ◌<◌, ◌≤◌, true, false, List, [], ◌∷◌, Ok, Err, fold, sym, ap, ◌∙◌, arith}
use Rattle.std.proofs.lemmas.Bool.{cond-true, cond-false, le-leb, lt-leb}
use Rattle.script.specs.declared.bad.Bad.TheVariants.{Number, Range}
use Rattle.script.specs.Numbers.{digit_more, decimal_value, all_digits, number_in}

-- more digits make no number smaller
pub more_digits : (n : ℕ) (word : List ℕ) → n ≤ fold digit_more n word
more_digits n [] = omega arith
more_digits n (c ∷ word) = omega (arith, more_digits (digit_more n c) word)

pub no_number : (word : List ℕ) (most : ℕ) → all_digits word ≡ false → Err Number ≡ number_in word most
unfolding number_in
no_number word most e = sym (cond-false _ _ _ e)

pub too_large : (word : List ℕ) (most : ℕ) → all_digits word ≡ true → most < decimal_value word → Err Range ≡ number_in word most
unfolding number_in
too_large word most e h = sym (cond-true _ _ _ e ∙ cond-false _ _ _ (lt-leb (decimal_value word) most h))

pub small_enough : (word : List ℕ) (most n : ℕ) → all_digits word ≡ true → n ≡ decimal_value word → n ≤ most → Ok n ≡ number_in word most
unfolding number_in
small_enough word most n e v h =
    let k : decimal_value word ≤ most = omega arith in
    ap Ok v ∙ sym (cond-true _ _ _ e ∙ cond-true _ _ _ (le-leb (decimal_value word) most k))
