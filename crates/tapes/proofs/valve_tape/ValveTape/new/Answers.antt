use Rattle.std.proofs.Common.{rules}
use Rattle.tapes.specs.Valves.{Unreadable}
use Rattle.tapes.proofs.Bytes.{encodes_valves, held_only, held_readable}
use Rattle.tapes.proofs.valve_tape.ValveTape.new.Goals as goal

pub returns-in-None : goal.returns-in-None
returns-in-None c = search (rules, encodes_valves, held_only)

pub returns-in-Some : goal.returns-in-Some
returns-in-Some c =
    let e = c.at-in-Some.result in
    let unreadable : Unreadable c.args.bytes.now e = search rules in
    record { made = unreadable; read_back = λ records held. held_readable c.args.bytes.now records held e unreadable }
