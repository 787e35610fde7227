-- Each rule over the statements passes exactly where it holds, and refuses with its own number.
use Rattle.std.proofs.Common.{◌≡◌, ℕ, Bool, true, false, List, Some, None, Ok, Err, Decides, Option, sym, refl, ap, ◌∙◌}
use Rattle.std.proofs.lemmas.Bool.Decides.{Decides-eqb, Decides-ltb, Decides-and}
use Rattle.std.proofs.lemmas.Slice.Eq.{bytes_eq-Decides}
use Rattle.digest.specs.Hmac.{hmac}
use Rattle.statement.specs.declared.types.SignedStatement.{SignedStatement}
use Rattle.statement.specs.Layout.{encoded}
use Rattle.reader.specs.declared.fault.ReaderFault.{ReaderFault}
use Rattle.reader.specs.declared.fault.ReaderFault.TheVariants.{WrongTag, WrongOrigin, WrongNonce, WrongNumbers, WrongDigest}
use Rattle.reader.specs.declared.evidence.Evidence.{Evidence}
use Rattle.reader.specs.declared.evidence.Evidence.TheVariants.{Found, Skipped, Forgotten, NotYet, End, EndOfEmpty}
use Rattle.reader.specs.Faults.{number_of}
use Rattle.reader.specs.Evidence.{first_of, second_of}
use Rattle.reader.specs.Rules.{Said, demanded, ◌>>=◌, on_second, each, tag_rule, origin_rule, nonce_rule, tags, origins, nonces, numbers, digests, counter_for}
use Rattle.reader_law.specs.Refusals.{refusal, tag, origin, nonce, digest, AlsoSecond, Every, Fresh, Shows, Digested}
use Rattle.reader_law.specs.Refusals as laws

-- a rule that passes exactly where T holds, and refuses with one number
pub record Settles (n : ℕ) (said : Said) (T : Type 0) : Type 0 where
  pub passes : T → said ≡ Ok tt
  pub keeps : said ≡ Ok tt → T
  pub tells : (fault : ReaderFault) → said ≡ Err fault → number_of fault ≡ n

pub settled : (n : ℕ) (b : Bool) (fault : ReaderFault) (T : Type 0) → number_of fault ≡ n → Decides b T → Settles n (demanded b fault) T
settled n true fault T e d = record { passes = λ t. refl; keeps = λ h. d.0 refl; tells = λ f h. cc }
settled n false fault T e d =
    record {
      passes = λ t. let w = d.1 t in cc;
      keeps = λ h. cc;
      tells = λ f h. let w : fault ≡ f = cc in ap number_of (sym w) ∙ e;
    }

pub both : (n : ℕ) (a b : Said) (S T : Type 0) → Settles n a S → Settles n b T → Settles n (a >>= (λ _. b)) (S × T)
both n (Ok u) b S T p q =
    record { passes = λ t. q.passes t.1; keeps = λ h. (p.keeps refl, q.keeps h); tells = λ f h. q.tells f h }
both n (Err g) b S T p q =
    record { passes = λ t. let w = p.passes t.0 in cc; keeps = λ h. cc; tells = λ f h. p.tells f h }

free : (n : ℕ) → Settles n (Ok tt) (Unit {0})
free n = record { passes = λ t. refl; keeps = λ h. tt; tells = λ f h. cc }

each_settles :
    (n : ℕ) (rule : SignedStatement → ℕ → Said) (P : SignedStatement → Type 0) (e : Evidence) →
    ((s : SignedStatement) (i : ℕ) → Settles n (rule s i) (P s)) → Settles n (each rule e) (Every P e)
each_settles n rule P e h = both n _ _ _ _ (h (first_of e) 0) (second (second_of e))
  where
    second : (o : Option SignedStatement) → Settles n (on_second rule o) (AlsoSecond P o)
    second None = free n
    second (Some s) = h s 1

pub tags_settle : (key : List ℕ) (e : Evidence) → Settles (refusal tag) (tags key e) (Every (λ s. s.tag ≡ hmac key (encoded s.statement)) e)
tags_settle key e = each_settles (refusal tag) (tag_rule key) _ e (λ s i. settled (refusal tag) _ (WrongTag i) _ refl (bytes_eq-Decides _ _))

pub origins_settle :
    (identity : List ℕ) (q : ℕ) (e : Evidence) →
    Settles (refusal origin) (origins identity q e) (Every (λ s. (s.statement.identity ≡ identity) × (s.statement.counter ≡ counter_for q e)) e)
origins_settle identity q e =
    each_settles (refusal origin) (origin_rule identity (counter_for q e)) _ e
    (λ s i. settled (refusal origin) _ (WrongOrigin i) _ refl (Decides-and _ _ (bytes_eq-Decides _ _) (Decides-eqb _ _)))

fresh : (n : List ℕ) (s : SignedStatement) → Settles (refusal nonce) (nonce_rule n s) (s.statement.matter ≡ n)
fresh n s = settled (refusal nonce) _ (WrongNonce 0) _ refl (bytes_eq-Decides _ _)

pub nonces_settle : (n : List ℕ) (e : Evidence) → Settles (refusal nonce) (nonces n e) (Fresh n e)
nonces_settle n (Found a d) = free (refusal nonce)
nonces_settle n (Skipped a) = free (refusal nonce)
nonces_settle n (Forgotten s) = fresh n s
nonces_settle n (NotYet s) = fresh n s
nonces_settle n (End s a d) = fresh n s
nonces_settle n (EndOfEmpty s) = fresh n s

shown : (b : Bool) (i : ℕ) (T : Type 0) → Decides b T → Settles (refusal laws.numbers) (demanded b (WrongNumbers i)) T
shown b i T d = settled (refusal laws.numbers) b (WrongNumbers i) T refl d

pub numbers_settle : (p : ℕ) (e : Evidence) → Settles (refusal laws.numbers) (numbers p e) (Shows p e)
numbers_settle p (Found a d) = shown _ 0 _ (Decides-and _ _ (Decides-ltb _ _) (Decides-eqb _ _))
numbers_settle p (Skipped a) = shown _ 0 _ (Decides-and _ _ (Decides-ltb _ _) (Decides-and _ _ (Decides-ltb _ _) (Decides-ltb _ _)))
numbers_settle p (Forgotten s) = shown _ 0 _ (Decides-and _ _ (Decides-eqb _ _) (Decides-ltb _ _))
numbers_settle p (NotYet s) = shown _ 0 _ (Decides-and _ _ (Decides-eqb _ _) (Decides-ltb _ _))
numbers_settle p (End s a d) =
    both (refusal laws.numbers) _ _ _ _
    (shown _ 0 _ (Decides-and _ _ (Decides-eqb _ _) (Decides-ltb _ _)))
    (shown _ 1 _ (Decides-and _ _ (Decides-ltb _ _) (Decides-eqb _ _)))
numbers_settle p (EndOfEmpty s) = shown _ 0 _ (Decides-and _ _ (Decides-eqb _ _) (Decides-eqb _ _))

pub digests_settle : (q : ℕ) (text : List ℕ) (e : Evidence) → Settles (refusal digest) (digests q text e) (Digested q text e)
digests_settle q text (Found a d) = settled (refusal digest) _ (WrongDigest 0) _ refl (bytes_eq-Decides _ _)
digests_settle q text (Skipped a) = free (refusal digest)
digests_settle q text (Forgotten s) = free (refusal digest)
digests_settle q text (NotYet s) = free (refusal digest)
digests_settle q text (End s a d) = settled (refusal digest) _ (WrongDigest 1) _ refl (bytes_eq-Decides _ _)
digests_settle q text (EndOfEmpty s) = free (refusal digest)
