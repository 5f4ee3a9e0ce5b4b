-- Capped numbers of visits, as measures of runs; and the overdue tally, whose worth is a number, if there is one.
use Rattle.std.specs.Prelude.{ℕ, ◌+◌, min, if◌then◌else◌, Option, nat_le}
use Rattle.std.specs.Option.{option_map}
use Rattle.std.proofs.Math.Nat.{min-le_right}
use Rattle.temporal.specs.Tallies.{Worths}
use Rattle.tallies.specs.Limits.{cap}
use Rattle.tallies.specs.Measures.{Measures, with_none}
use Rattle.tallies.specs.declared.overdue.Count.{Count}

abbrev pub capped : ℕ → Count
capped n = record { number = min n cap; small = min-le_right n cap }

abbrev pub smaller : Count → Count → Count
smaller x y = if nat_le x.number y.number then x else y

-- joining takes the smaller, combining adds; a rejecting visit weighs 1, any other 0
abbrev pub counts : Measures Count
counts = record {
  unit = capped 0;
  joined = smaller;
  combined = λ x y. capped (x.number + y.number);
  weighs = λ v. capped (if v.accepting then 0 else 1);
}

abbrev pub overdues : Worths (Option Count)
overdues = with_none counts

abbrev pub overdue_number : Option Count → Option ℕ
overdue_number = option_map (λ x. x.number)
