-- Records of equal numbers are equal.
use Rattle.std.proofs.Common.{◌≡◌, ◌≤◌}
use mathlib.Core.HLevel.{is_prop→PathP}
use native.Mathlib.Bridge.{le_prop}
use Rattle.states.specs.declared.valve.ValveRecord.{ValveRecord}

pub same_valve : (a b : ValveRecord) → a.bits ≡ b.bits → a.pump ≡ b.pump → a ≡ b
same_valve a b bits pump = λ i. record {
  bits = bits i;
  pump = pump i;
  lawful = is_prop→PathP (λ j. pump j ≤ 1) (λ j. le_prop) a.lawful b.lawful i;
}
