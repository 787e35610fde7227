use Rattle.std.proofs.Common.{◌≡◌, length, drop, sym, ap, ◌∙◌, ⊎_elim, arith}
use Rattle.std.proofs.lemmas.List.{take_rest, drop_all}
use Rattle.std.proofs.lemmas.Bool.{cases_lt}
use Rattle.notice.specs.Limits.{record_head}
use Rattle.notice.specs.Record.{text_of}
use Rattle.notice.proofs.reading.Record.text.Goals as goal

pub returns : goal.returns
unfolding text_of
returns c =
    let b = c.self.inside.bytes.now in
    let f = c.min-from.result in
    let same : drop f b ≡ drop record_head b =
    ⊎_elim
    (λ h. drop_all f b (omega arith) ∙ sym (drop_all record_head b (omega arith)))
    (λ h. let e : f ≡ record_head = omega arith in ap (λ k. drop k b) e)
    (cases_lt (length b) record_head) in
    record { answers = rw (← c.self.view_is) (take_rest b f ∙ same) }
