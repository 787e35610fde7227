-- The bytes of the digest rule's input determine its parts.
use Rattle.std.proofs.Common.{◌≡◌, ℕ, List, ◌++◌, length, get_or, take, drop, sym, ap, ◌∙◌}
use Rattle.std.proofs.lemmas.List.{take_at, drop_at}
use Rattle.statement.specs.Layout.{number}
use Rattle.statement.proofs.Layouts.{number-four}
use Rattle.notice.specs.declared.spans.Span.{Span}
use Rattle.notice.specs.Limits.{previous_size}
use Rattle.notice.specs.Input.{digest_input, Determines}

pub input_determines : (span : Span) (previous text : List ℕ) → length previous ≡ previous_size → Determines span previous text
unfolding digest_input
input_determines span previous text h' s d words h e =
    let rest : d ++ words ≡ previous ++ text = ap (drop 9) e in
    let lane : s.lane ≡ span.lane = ap (λ z. get_or z 0 0) e in
    let old : s.old ≡ span.old = sym (number-four s.old) ∙ (ap (λ z. number (take 4 (drop 1 z))) e ∙ number-four span.old) in
    let new : s.new ≡ span.new = sym (number-four s.new) ∙ (ap (λ z. number (take 4 (drop 5 z))) e ∙ number-four span.new) in
    let same : ◌≡◌ {A = Span} (record { lane = s.lane; old = s.old; new = s.new }) (record { lane = span.lane; old = span.old; new = span.new }) = cc in
    record {
      span = same;
      previous = sym (take_at d words 32 h) ∙ (ap (take 32) rest ∙ take_at previous text 32 h');
      text = sym (drop_at d words 32 h) ∙ (ap (drop 32) rest ∙ drop_at previous text 32 h');
    }
