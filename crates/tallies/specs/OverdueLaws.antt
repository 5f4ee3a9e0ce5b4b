-- Capped numbers keep the laws of measures.
use Rattle.std.specs.Prelude.{◌≡◌, ◌≤◌, min, nat_le}
use Rattle.std.proofs.Common.{ap₂, ◌∙◌, arith, leb-false, leb-true}
use mathlib.Core.HLevel.{is_prop→PathP}
use Rattle.std.proofs.Math.Bridge.{le_prop}
use Rattle.std.proofs.lemmas.Bool.{cond_both}
use Rattle.tallies.specs.Limits.{cap}
use Rattle.tallies.specs.Measures.{MeasureLaws}
use Rattle.tallies.specs.Overdue.{counts, smaller}
use Rattle.tallies.specs.declared.overdue.Count.{Count}

pub same_count : (x y : Count) → x.number ≡ y.number → x ≡ y
same_count x y e = λ i. record { number = e i; small = is_prop→PathP (λ j. e j ≤ cap) (λ j. le_prop) x.small y.small i }

pub smaller_number : (x y : Count) → (smaller x y).number ≡ min x.number y.number
smaller_number x y =
    cond_both (nat_le x.number y.number) x y (λ z. z.number ≡ min x.number y.number)
    (λ e. omega (arith, leb-true x.number y.number e)) (λ e. omega (arith, leb-false x.number y.number e))

plus_smaller : (x y z : Count) → counts.combined x (smaller y z) ≡ smaller (counts.combined x y) (counts.combined x z)
plus_smaller x y z = same_count _ _ (omega (arith, smaller_number y z, smaller_number (counts.combined x y) (counts.combined x z)))

plus_turned : (x y : Count) → counts.combined x y ≡ counts.combined y x
plus_turned x y = same_count _ _ (omega arith)

pub count_laws : MeasureLaws counts
count_laws = record {
  joined_assoc = λ x y z. same_count _ _ (omega (arith, smaller_number (smaller x y) z, smaller_number x y, smaller_number x (smaller y z), smaller_number y z));
  combined_assoc = λ x y z. same_count _ _ (omega arith);
  unit_combined = λ x. same_count _ _ (omega arith);
  combined_unit = λ x. same_count _ _ (omega arith);
  combined_joined = plus_smaller;
  joined_combined = λ x y z. plus_turned (smaller x y) z ∙ plus_smaller z x y ∙ ap₂ smaller (plus_turned z x) (plus_turned z y);
}
