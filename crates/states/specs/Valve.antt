-- The valve record's three bytes, its vocabulary, and what each of its atoms means.
use Rattle.std.specs.Prelude.{◌≡◌, ℕ, ◌/◌, ◌%◌, ◌<◌, Bool, List, [], ◌∷◌, codes, ◌==◌, nat_lt, slice_index, Result, MatchResult}
use Rattle.refusals.specs.Causes.{By}
use Rattle.refusals.specs.declared.Refusal.{Refusal}
use Rattle.states.specs.Atoms.{Atom}
use Rattle.states.specs.declared.valve.ValveRecord.{ValveRecord}

-- the valve bits, high byte first, then the pump
abbrev pub encoded : ValveRecord → List ℕ
encoded v = (v.bits / 256) ∷ (v.bits % 256) ∷ v.pump ∷ []

-- three bytes are those of the record that they are read as, or else refused: the pump byte exceeds 1
abbrev pub Decodes : List ℕ → Result ValveRecord Refusal → Type 0
Decodes bytes r = MatchResult r (λ v. encoded v ≡ bytes) (λ e. (1 < slice_index bytes 2) × By 11 0 e)

abbrev pub pumping : ValveRecord → Bool
pumping v = v.pump == 1

-- at least one valve bit is set
abbrev pub some_open : ValveRecord → Bool
some_open v = nat_lt 0 v.bits

abbrev pub valve_atoms : List (Atom ValveRecord)
valve_atoms = record { word = codes "pumping"; means = pumping } ∷ record { word = codes "open"; means = some_open } ∷ []
