use Rattle.std.proofs.Common.{◌≡◌, ℕ, ◌/◌, ◌<◌, ◌≤◌, List, [], ◌∷◌, length, take, Some, None, Option, sym, ap, subst, arith, rules}
use Rattle.states.specs.declared.valve.ValveRecord.{ValveRecord}
use Rattle.tapes.specs.Reading.{Found}
use Rattle.tapes.specs.Valves.{Encodes, written}
use Rattle.tapes.proofs.Bytes.{encodes_taken, length-written, pumps_written, valves_written}
use Rattle.tests.proofs.lenders.note_and_read.Goals as goal

-- after the first record is written, the first three bytes encode it
encodes : (bytes after : List ℕ) (v : ValveRecord) → 3 ≤ length bytes → after ≡ written bytes 0 v → Encodes (take 3 after) (v ∷ [])
encodes bytes after v long is =
    let room : 0 < length bytes / 3 = omega arith in
    let pumps = pumps_written bytes 0 v room (λ k below. absurd (omega arith)) in
    let within : 1 ≤ length (written bytes 0 v) / 3 = omega (arith, length-written bytes 0 v) in
    let there = subst (Encodes (take 3 (written bytes 0 v))) (valves_written bytes 0 v room) (encodes_taken 1 (written bytes 0 v) within ∣ pumps ∣₁) in
    subst (λ (xs : List ℕ). Encodes (take 3 xs) (v ∷ [])) (sym is) there

first : (v : ValveRecord) (r : Option ValveRecord) → Found (v ∷ []) 0 r → r ≡ Some v
first v None found = absurd (omega arith)
first v (Some s) found = ap Some found.1

pub returns-in_err-ok-clause-read : goal.returns-in_err-ok-clause-read
returns-in_err-ok-clause-read c long =
    let one = c.new.ensures.read_back (c.args.state ∷ []) (encodes c.args.bytes.now c.note_valve.new.bytes c.args.state long (c.note_valve.ensures.noted long)) in
    search rules

pub returns-clause-read : goal.returns-clause-read
returns-clause-read c long =
    let one = c.new.ensures.read_back (c.args.state ∷ []) (encodes c.args.bytes.now c.note_valve.new.bytes c.args.state long (c.note_valve.ensures.noted long)) in
    search (rules, first)
