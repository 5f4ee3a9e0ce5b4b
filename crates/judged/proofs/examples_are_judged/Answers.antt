use Rattle.std.proofs.Common.{ℕ, List, refl}
use Rattle.judged.proofs.examples_are_judged.Goals as goal
use Rattle.judged.specs.Judged.{Row, Standing, broken_by, kept_by, overdue_of, shared_of, verdict_of}
use Rattle.states.specs.contracts.heap.HeapRecordState.TheImpl as heap
use Rattle.states.specs.declared.heap.HeapRecord.{HeapRecord}
use Rattle.temporal.specs.Spelling.{Spells}
use Rattle.tallies.specs.Shared.{power_sum}
use Rattle.temporal.specs.Formula.{Formula, atom, negation, unary, binary}
use Rattle.temporal.specs.declared.operators.Unary.TheVariants.{Next, Always, Eventually}
use Rattle.temporal.specs.declared.operators.Binary.TheVariants.{Implies, Until}

abbrev eventual : Formula
eventual = unary Eventually (atom 4)

abbrev answer : Formula
answer = unary Always (binary Implies (atom 3) (unary Eventually (atom 4)))

-- a row and a standing need no more than the formula and that the text spells it: the rest computes
module _ {text : List ℕ} {records : List HeapRecord} (f : Formula) (spelled : Spells (heap.ghosts).words text f) where
  row : Row text records (verdict_of records f) (overdue_of records f) (shared_of records f)
  row = record { formula = f; spelled = spelled; verdict_is = refl; overdue_is = refl; shared_is = refl }

  standing : Standing text records (kept_by records f) (broken_by records f)
  standing = record { formula = f; spelled = spelled; kept_is = refl; broken_is = refl }

pub returns : goal.returns
unfolding power_sum
returns c = record {
  dispensed_third = row eventual refl;
  dispensed_first = row eventual refl;
  never_dispensed = row eventual refl;
  no_next_state = row (unary Next (atom 4)) refl;
  weak_next = row (negation (unary Next (atom 4))) refl;
  answered_once = row answer refl;
  answered_twice = row answer refl;
  unanswered = row answer refl;
  released = row (negation (binary Until (atom 1) (atom 4))) refl;
  open_at_first = standing eventual refl;
  kept_once_dispensed = standing eventual refl;
  broken_at_once = standing (unary Always (atom 3)) refl;
}
