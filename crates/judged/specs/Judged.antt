-- The judged examples: rule texts and heap tapes, with verdict, overdue count and the sum of shared nodes, or with the standing. The words and
-- answers are those of the heap record's kind, and the worths those of the tallies.
use Rattle.std.specs.Prelude.{◌≡◌, ℕ, Bool, true, false, not, List, [], ◌∷◌, map, reverse, Some, None, codes, Option, refl}
use Rattle.states.specs.Answers.{said}
use Rattle.states.specs.declared.answer.Answer.{Answer}
use Rattle.states.specs.contracts.heap.HeapRecordState.TheImpl as heap
use Rattle.states.specs.declared.heap.HeapRecord.{HeapRecord}
use Rattle.tallies.specs.Overdue.{overdue_number}
use Rattle.tallies.specs.Measures.{with_none}
use Rattle.tallies.specs.Shared.{shared_sum}
use Rattle.tallies.specs.Verdicts.{says}
use Rattle.tallies.specs.contracts.overdue.CountMeasure.TheImpl as count
use Rattle.tallies.specs.contracts.shared.NodeSetMeasure.TheImpl as node_set
use Rattle.tallies.specs.contracts.verdict.VerdictTally.TheImpl as verdict
use Rattle.temporal.specs.Formula.{Formula}
use Rattle.temporal.specs.Holds.{Answers}
use Rattle.temporal.specs.Reading.{Counts, counted}
use Rattle.temporal.specs.Runs.{runs}
use Rattle.temporal.specs.Spelling.{Spells}
use Rattle.temporal.specs.Suffices.{everything, nothing, suffices}
use Rattle.temporal.specs.Tallies.{joint}

-- idle, refused and dispensed
abbrev q : HeapRecord
q = record { free = 1000; largest = 400; wanted = 0; outcome = 0; lawful = refl }

abbrev r : HeapRecord
r = record { free = 1000; largest = 400; wanted = 500; outcome = 2; lawful = refl }

abbrev d : HeapRecord
d = record { free = 1000; largest = 400; wanted = 300; outcome = 1; lawful = refl }

-- whether a state says yes, atom by atom
abbrev told : {S : Type 0} → (S → ℕ → Answer) → S → Answers
told answers s atom = said (answers s atom)

abbrev tape_of : List HeapRecord → List Counts
tape_of records = map counted (map (told (heap.ghosts).answers) records)

module _ (records : List HeapRecord) (f : Formula) where
  -- what the accepting runs come to
  abbrev pub verdict_of : Bool
  verdict_of = says (joint (verdict.ghosts).worths (runs (tape_of records) f))

  abbrev pub overdue_of : Option ℕ
  overdue_of = overdue_number (joint (with_none (count.ghosts).measures) (runs (tape_of records) f))

  abbrev pub shared_of : Option ℕ
  shared_of = shared_sum (joint (with_none (node_set.ghosts).measures) (runs (tape_of records) f))

  -- whether the formula is kept, or broken, once the records are noted
  abbrev pub kept_by : Bool
  kept_by = suffices f (reverse (tape_of records)) nothing

  abbrev pub broken_by : Bool
  broken_by = not (suffices f (reverse (tape_of records)) everything)

-- the text spells a formula, and this is what the accepting runs come to
pub record Row (text : List ℕ) (records : List HeapRecord) (yes_or_no : Bool) (overdue shared : Option ℕ) : Type 0 where
  pub formula : Formula
  pub spelled : Spells (heap.ghosts).words text formula
  pub verdict_is : verdict_of records formula ≡ yes_or_no
  pub overdue_is : overdue_of records formula ≡ overdue
  pub shared_is : shared_of records formula ≡ shared

-- the text spells a formula, and once these records are noted it is kept, or broken, or neither
pub record Standing (text : List ℕ) (records : List HeapRecord) (kept broken : Bool) : Type 0 where
  pub formula : Formula
  pub spelled : Spells (heap.ghosts).words text formula
  pub kept_is : kept_by records formula ≡ kept
  pub broken_is : broken_by records formula ≡ broken

abbrev refusals_answered : List ℕ
refusals_answered = codes "always (refused implies eventually dispensed)"

pub record Judged : Type 0 where
  pub dispensed_third : Row (codes "eventually dispensed") (q ∷ q ∷ d ∷ []) true (Some 2) (Some 3)
  pub dispensed_first : Row (codes "eventually dispensed") (d ∷ q ∷ []) true (Some 0) (Some 1)
  pub never_dispensed : Row (codes "eventually dispensed") (q ∷ []) false None None
  pub no_next_state : Row (codes "next dispensed") (d ∷ []) false None None
  pub weak_next : Row (codes "not next dispensed") (d ∷ []) true (Some 0) (Some 2)
  pub answered_once : Row refusals_answered (r ∷ d ∷ []) true (Some 1) (Some 22)
  pub answered_twice : Row refusals_answered (r ∷ r ∷ d ∷ []) true (Some 3) (Some 22)
  pub unanswered : Row refusals_answered (d ∷ r ∷ []) false None None
  pub released : Row (codes "not (enough until dispensed)") (r ∷ q ∷ []) true (Some 0) (Some 6)
  pub open_at_first : Standing (codes "eventually dispensed") (q ∷ []) false false
  pub kept_once_dispensed : Standing (codes "eventually dispensed") (q ∷ d ∷ []) true false
  pub broken_at_once : Standing (codes "always refused") (q ∷ []) false true
