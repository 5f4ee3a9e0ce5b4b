-- What a run can come to, apart from none, and the tally that it makes with none added.
use Rattle.std.specs.Prelude.{◌≡◌, Some, None, Option}
use Rattle.temporal.specs.Tallies.{Worths}
use Rattle.temporal.specs.declared.visits.Visit.{Visit}

pub record Measures (X : Type 0) : Type 0 where
  pub unit : X
  pub joined : X → X → X
  pub combined : X → X → X
  pub weighs : Visit → X

pub record MeasureLaws {X : Type 0} (m : Measures X) : Type 0 where
  pub joined_assoc : (x y z : X) → m.joined (m.joined x y) z ≡ m.joined x (m.joined y z)
  pub combined_assoc : (x y z : X) → m.combined (m.combined x y) z ≡ m.combined x (m.combined y z)
  pub unit_combined : (x : X) → m.combined m.unit x ≡ x
  pub combined_unit : (x : X) → m.combined x m.unit ≡ x
  pub combined_joined : (x y z : X) → m.combined x (m.joined y z) ≡ m.joined (m.combined x y) (m.combined x z)
  pub joined_combined : (x y z : X) → m.combined (m.joined x y) z ≡ m.joined (m.combined x z) (m.combined y z)

module _ {X : Type 0} (m : Measures X) where
  abbrev pub either : Option X → Option X → Option X
  either None y = y
  either (Some x) None = Some x
  either (Some x) (Some y) = Some (m.joined x y)

  abbrev pub both : Option X → Option X → Option X
  both None y = None
  both (Some x) None = None
  both (Some x) (Some y) = Some (m.combined x y)

  abbrev pub with_none : Worths (Option X)
  with_none = record { none = None; unit = Some m.unit; joined = either; combined = both; weighs = λ v. Some (m.weighs v) }
