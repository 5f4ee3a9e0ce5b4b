use Rattle.std.proofs.Common.{rules}
use Rattle.tapes.proofs.Bytes.{length-valves}
use Rattle.tapes.proofs.valve_tape.ValveTapeTape.len.Goals as goal

pub returns : goal.returns
returns c = search (rules, length-valves)
