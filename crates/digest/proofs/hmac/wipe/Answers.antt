-- Needed: with `wiped_parts` named on the function, the check alone did not find it.
use Rattle.std.proofs.Common.{◌≡◌, ℕ, length, take, drop, refl, rules}
use Rattle.digest.specs.Bytes.{Bytes}
use Rattle.digest.proofs.Wiped.{wiped_parts}
use Rattle.digest.proofs.hmac.wipe.Goals as goal

pub returns : goal.returns
returns c =
    let working : Bytes = c.args.working.now in
    let n : ℕ = c.used_size-size.result in
    let size : length (take n working) ≡ n = search rules in
    record { working = wiped_parts working (take n working) c.fill.new.self (drop n working) n c.used_size-size.ensures.answers size (c.fill.ensures.after (λ y e. e)) refl }
