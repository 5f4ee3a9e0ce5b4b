-- Valve records in bytes, three a record: the valve bits, high byte first, then the pump.
use Rattle.std.specs.Prelude.{◌≡◌, ℕ, ◌+◌, ◌*◌, ◌/◌, ◌%◌, ◌<◌, ◌≤◌, min, ◌⊎◌, List, map, length, slice_index, slice_index_or, slice_set}
use Rattle.std.proofs.Math.Nat.{min-le_right}
use Rattle.refusals.specs.Causes.{By}
use Rattle.refusals.specs.declared.Refusal.{Refusal}
use Rattle.states.specs.Valve.{encoded}
use Rattle.states.specs.declared.valve.ValveRecord.{ValveRecord}
use Rattle.std.specs.List.{range_with_len}

-- what the three bytes of the record numbered k say
abbrev pub bits_at : List ℕ → ℕ → ℕ
bits_at bytes k = slice_index bytes (3 * k) * 256 + slice_index bytes (3 * k + 1)

abbrev pub pump_at : List ℕ → ℕ → ℕ
pump_at bytes k = slice_index bytes (3 * k + 2)

abbrev pub LawfulPumps : ℕ → List ℕ → Type 0
LawfulPumps n bytes = (k : ℕ) → k < n → pump_at bytes k ≤ 1

-- Bytes encode a list of records: three a record, and each record as its bytes say.
pub record Encodes (bytes : List ℕ) (records : List ValveRecord) : Type 0 where
  pub whole : length bytes ≡ 3 * length records
  pub each : (k : ℕ) (d : ValveRecord) → k < length records → ((slice_index_or records k d).bits ≡ bits_at bytes k) × ((slice_index_or records k d).pump ≡ pump_at bytes k)

-- The record numbered k of any bytes. A record's pump is at most 1, so a larger byte is taken as 1; no tape has one.
abbrev pub valve_at : List ℕ → ℕ → ValveRecord
valve_at bytes k = record { bits = bits_at bytes k; pump = min (pump_at bytes k) 1; lawful = min-le_right (pump_at bytes k) 1 }

-- the first n records
abbrev pub valves : ℕ → List ℕ → List ValveRecord
valves n bytes = map (valve_at bytes) (range_with_len 0 n)

-- the bytes with these three as those of the record numbered k, and no other changed
abbrev pub stored : List ℕ → ℕ → List ℕ → List ℕ
stored bytes k three = slice_set (slice_set (slice_set bytes (3 * k) (slice_index three 0)) (3 * k + 1) (slice_index three 1)) (3 * k + 2) (slice_index three 2)

abbrev pub written : List ℕ → ℕ → ValveRecord → List ℕ
written bytes k v = stored bytes k (encoded v)

-- Why bytes are no valve tape: a record is cut off, or else the first pump byte above 1.
pub record Partial (bytes : List ℕ) (e : Refusal) : Type 0 where
  pub partial : length bytes % 3 ≡ 0 → ⊥
  pub refused : By 10 (length bytes) e

pub record PumpAbove (bytes : List ℕ) (e : Refusal) : Type 0 where
  pub whole : length bytes % 3 ≡ 0
  pub refused : By 11 e.place e
  pub within : e.place < length bytes / 3
  pub above : 1 < pump_at bytes e.place
  pub first : LawfulPumps e.place bytes

abbrev pub Unreadable : List ℕ → Refusal → Type 0
Unreadable bytes e = Partial bytes e ⊎ PumpAbove bytes e
