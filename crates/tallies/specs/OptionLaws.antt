-- With none added, the laws of measures are the laws of a tally.
use Rattle.std.specs.Prelude.{◌≡◌, Some, None, Option, is_some, refl}
use Rattle.std.proofs.Common.{ap}
use Rattle.std.proofs.lemmas.Bool.{false≢true}
use Rattle.temporal.specs.Tallies.{Laws}
use Rattle.tallies.specs.Measures.{MeasureLaws, Measures, both, either, with_none}

module _ {X : Type 0} {m : Measures X} (laws : MeasureLaws m) where
  either_assoc : (x y z : Option X) → either m (either m x y) z ≡ either m x (either m y z)
  either_assoc None y z = refl
  either_assoc (Some x) None z = refl
  either_assoc (Some x) (Some y) None = refl
  either_assoc (Some x) (Some y) (Some z) = ap Some (laws.joined_assoc x y z)

  both_assoc : (x y z : Option X) → both m (both m x y) z ≡ both m x (both m y z)
  both_assoc None y z = refl
  both_assoc (Some x) None z = refl
  both_assoc (Some x) (Some y) None = refl
  both_assoc (Some x) (Some y) (Some z) = ap Some (laws.combined_assoc x y z)

  either_none : (x : Option X) → either m x None ≡ x
  either_none None = refl
  either_none (Some x) = refl

  unit_both : (x : Option X) → both m (Some m.unit) x ≡ x
  unit_both None = refl
  unit_both (Some x) = ap Some (laws.unit_combined x)

  both_unit : (x : Option X) → both m x (Some m.unit) ≡ x
  both_unit None = refl
  both_unit (Some x) = ap Some (laws.combined_unit x)

  both_none : (x : Option X) → both m x None ≡ None
  both_none None = refl
  both_none (Some x) = refl

  both_either : (x y z : Option X) → both m x (either m y z) ≡ either m (both m x y) (both m x z)
  both_either None y z = refl
  both_either (Some x) None z = refl
  both_either (Some x) (Some y) None = refl
  both_either (Some x) (Some y) (Some z) = ap Some (laws.combined_joined x y z)

  either_both : (x y z : Option X) → both m (either m x y) z ≡ either m (both m x z) (both m y z)
  either_both None y z = refl
  either_both (Some x) None None = refl
  either_both (Some x) None (Some z) = refl
  either_both (Some x) (Some y) None = refl
  either_both (Some x) (Some y) (Some z) = ap Some (laws.joined_combined x y z)

  pub with_none_laws : Laws (with_none m)
  with_none_laws = record {
    joined_assoc = either_assoc;
    combined_assoc = both_assoc;
    none_joined = λ x. refl;
    joined_none = either_none;
    unit_combined = unit_both;
    combined_unit = both_unit;
    none_combined = λ x. refl;
    combined_none = both_none;
    combined_joined = both_either;
    joined_combined = either_both;
    none_is_not_unit = λ e. false≢true (ap is_some e);
  }
