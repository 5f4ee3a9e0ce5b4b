use Rattle.std.proofs.Common.{◌<◌, ◌≤◌, ◌/◌, List, ℕ, length, rules, get_or}
use borrow.Author.Tests.{tests}
use Rattle.std.proofs.lemmas.Iterator.{IsFirst-from_position, YieldsList-from_slice}
use Rattle.std.specs.Simd.{first_chunks}
use Rattle.tapes.proofs.Bytes.{first_pump}
use Rattle.tapes.proofs.valve_tape.first_unlawful.Goals as goal

pub returns : goal.returns
returns c =
    let bytes = c.args.bytes.now in
    first_pump bytes c.position.result (IsFirst-from_position _ _ c.position.result (λ (b : List ℕ). 1 < get_or b 2 0) (λ b. get_or b 2 0 ≤ 1)
    c.position.ensures.ran
    (YieldsList-from_slice (first_chunks 3 (length bytes / 3) bytes) (search rules))
    (λ x q k. search (rules, tests)) (λ x q k. search (rules, tests)))
