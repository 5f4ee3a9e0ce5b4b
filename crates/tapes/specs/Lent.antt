-- What the tapes over lent memory mean: the states in their cells or bytes, and how many fit.
use Rattle.std.specs.Prelude.{ℕ, ◌/◌, List, length, take}
use Rattle.states.specs.declared.valve.ValveRecord.{ValveRecord}
use Rattle.tapes.specs.Valves.{valves}
use Rattle.tapes.specs.declared.cells.Cells.{Cells}
use Rattle.tapes.specs.declared.log.Log.{Log}
use Rattle.tapes.specs.declared.valve_log.ValveLog.{ValveLog}
use Rattle.tapes.specs.declared.valve_tape.ValveTape.{ValveTape}

abbrev pub cells_states : {S : Type 0} → Cells S → List S
cells_states tape = tape.cells.now

abbrev pub log_states : {S : Type 0} → Log S → List S
log_states log = take log.used log.cells.now

abbrev pub log_capacity : {S : Type 0} → Log S → ℕ
log_capacity log = length log.cells.now

abbrev pub valve_tape_states : ValveTape → List ValveRecord
valve_tape_states tape = valves (length tape.bytes.now / 3) tape.bytes.now

abbrev pub valve_log_states : ValveLog → List ValveRecord
valve_log_states log = valves log.used log.bytes.now

abbrev pub valve_log_capacity : ValveLog → ℕ
valve_log_capacity log = length log.bytes.now / 3
