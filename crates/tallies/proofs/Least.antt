-- Overdue is the least number of rejecting visits that an accepting run has, capped.
use Rattle.std.proofs.Common.{◌≡◌, ◌≤◌, min, List, [], ◌∷◌, refl, inl, inr, arith}
use Rattle.std.specs.List.{AllByRecursion, Contains}
use Rattle.std.proofs.lemmas.Bool.{cases_lt}
use Rattle.std.proofs.lemmas.List.Elements.{Contains-append_right}
use Rattle.temporal.specs.Formula.{Formula}
use Rattle.temporal.specs.Reading.{Counts}
use Rattle.temporal.specs.Runs.{runs}
use Rattle.temporal.specs.Tallies.{Run}
use Rattle.temporal.proofs.Exact.{exactly}
use Rattle.temporal.proofs.Lists.{all_contained, all_weaker}
use Rattle.tallies.specs.Limits.{cap}
use Rattle.tallies.specs.Overdue.{counts}
use Rattle.tallies.specs.OverdueLaws.{smaller_number}
use Rattle.tallies.specs.Statements.{OverdueIsLeast, rejecting}
use Rattle.tallies.specs.declared.overdue.Count.{Count}
use Rattle.tallies.proofs.Joint.{Grows, joint_is, none_accepted, total}

-- a run comes to its number of rejecting visits, capped
total_is : (run : Run) → (total counts run).number ≡ min (rejecting run) cap
total_is [] = refl
total_is (v ∷ run) = omega (arith, total_is run)

-- at most as much as each run of a list comes to, and as much as one of them
record Least (rs : List Run) (x : Count) : Type 0 where
  least : AllByRecursion (λ run. x.number ≤ min (rejecting run) cap) rs
  reached : (run : Run) × Contains rs run × (x.number ≡ min (rejecting run) cap)

least_more : (run : Run) (rs : List Run) (y : Count) → Least rs y → Least (run ∷ rs) (counts.joined (total counts run) y)
least_more run rs y h =
    let number = smaller_number (total counts run) y in
    let (other, there, is) = h.reached in
    record {
      least = (omega (arith, number, total_is run), all_weaker (λ r le. omega (arith, number)) rs h.least);
      reached = elim (cases_lt (total counts run).number y.number) [
        | inl lt ↦ (run, (0, omega arith, refl), omega (arith, number, total_is run))
        | inr le ↦ (other, Contains-append_right (run ∷ []) rs other there, omega (arith, number))
      ];
    }

least : Grows counts Least
least = record {
  one = λ run. record { least = (omega (arith, total_is run), tt); reached = (run, (0, omega arith, refl), total_is run) };
  more = least_more;
}

pub overdue_is_least : (tape : List Counts) (f : Formula) → OverdueIsLeast tape f
overdue_is_least tape f = record {
  none = none_accepted counts Least least tape f;
  least = λ x e run a. all_contained _ (runs tape f) run (joint_is counts Least least tape f x e).least ((exactly tape f run).1 a);
  reached = λ x e. let (run, has, is) = (joint_is counts Least least tape f x e).reached in (run, (exactly tape f run).0 has, is);
}
