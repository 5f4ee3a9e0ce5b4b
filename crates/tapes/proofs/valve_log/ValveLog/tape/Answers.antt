use Rattle.std.proofs.Common.{rules}
use Rattle.tapes.proofs.Bytes.{encodes_taken, length-valves, valves_taken}
use Rattle.tapes.proofs.valve_log.ValveLog.tape.Goals as goal

pub returns : goal.returns
returns c =
    let log = c.args.self.now in
    let encodes = encodes_taken log.used log.bytes.now log.within ∣ log.lawful ∣₁ in
    simp length-valves (search (rules, encodes, valves_taken))
