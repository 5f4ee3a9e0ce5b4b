-- The theorems, each the contract of a public call.
use Rattle.std.specs.Prelude.{◌≡◌, ℕ, ◌<◌, Bool, true, false, ◌↔◌, List, [], ◌++◌, map, length, slice_index_or}
use Rattle.std.specs.List.{range_with_len, All, Contains}
use Rattle.temporal.specs.Accepts.{Accepted, Accepts}
use Rattle.temporal.specs.Formula.{Formula, nodes}
use Rattle.temporal.specs.Holds.{Answers, Holds}
use Rattle.temporal.specs.Listing.{ListedInOrder, WaitsInOrder}
use Rattle.temporal.specs.Nodes.{in_order, number, visit_of, waiting_operators}
use Rattle.temporal.specs.Reading.{Counts, counted, reading}
use Rattle.temporal.specs.Runs.{runs, runs_from}
use Rattle.temporal.specs.Suffices.{Broken, EndsInYes, Kept, Marks, Within, suffices}
use Rattle.temporal.specs.Tallies.{Run, Worths, joint}

-- the nodes in order have the numbers 0, 1, 2 and so on, below how many there are
abbrev pub NumberedInOrder : Type 0
NumberedInOrder = (f : Formula) → map number (in_order false 0 f) ≡ range_with_len 0 (nodes f)

-- a list has exactly the runs of a relation, and none of them at two places
pub record EachOnce (P : Run → Type 0) (runs : List Run) : Type 0 where
  pub exactly : (run : Run) → Contains runs run ↔ P run
  pub once : (i j : ℕ) → i < length runs → j < length runs → slice_index_or runs i [] ≡ slice_index_or runs j [] → i ≡ j

-- the list of runs has exactly the accepting runs, each once
abbrev pub RunsAreListed : Type 0
RunsAreListed = (tape : List Counts) (f : Formula) → EachOnce (Accepts tape f) (runs tape f)

-- and has them in order
abbrev pub RunsAreInOrder : Type 0
RunsAreInOrder = (s : Counts) (later : List Counts) (b : ℕ) (f g : Formula) → ListedInOrder s later b f g

abbrev pub WaitsAreInOrder : Type 0
WaitsAreInOrder = (n : Bool) (b : ℕ) (f : Formula) → WaitsInOrder n b f

-- every visit of an accepting run is the visit of one of the rule's nodes
abbrev pub VisitsAreOfNodes : Type 0
VisitsAreOfNodes = (tape : List Counts) (f : Formula) (run : Run) → Accepts tape f run → All (Contains (map visit_of (in_order false 0 f))) run

-- the joint worth of a formula's runs, of either sign and from any node number on, is the reading by the tally's own
-- operations; the rule itself is positive, and its first node has the number 0
abbrev pub JointWorth : {W : Type 0} → Worths W → Type 0
JointWorth m = (tape : List Counts) (n : Bool) (b : ℕ) (f : Formula) → joint m (runs_from tape n b f) ≡ reading m tape n b f

-- a tape has an accepting run exactly when it has a first state and the formula holds there
abbrev pub Meaning : Type 0
Meaning = (tape : List Answers) (f : Formula) → Accepted (map counted tape) f ↔ ((0 < length tape) × Holds tape f 0)

-- an empty tape has none
abbrev pub NoneOnEmpty : Type 0
NoneOnEmpty = (f : Formula) → Accepted [] f → ⊥

-- the set of accepting operators suffices exactly when the noted tape has an accepting run
abbrev pub EndIsVerdict : Type 0
EndIsVerdict = (tape : List Counts) (f : Formula) → EndsInYes tape f ↔ Accepted tape f

-- a larger set suffices where a smaller one does
abbrev pub SetsGrow : Type 0
SetsGrow = (f : Formula) (noted : List Counts) (v w : Marks) → Within v w → suffices f noted v ≡ true → suffices f noted w ≡ true

-- sets that agree on the rule's own waiting operators, and on `start`, suffice alike
abbrev pub OwnOperatorsDecide : Type 0
OwnOperatorsDecide =
    (f : Formula) (noted : List Counts) (v w : Marks)
    → v.start ≡ w.start
    → All (λ x. v.waits x.negative x.first x.formula ≡ w.waits x.negative x.first x.formula) (waiting_operators false 0 f)
    → suffices f noted v ≡ suffices f noted w

-- kept and broken never turn, and foretell the end, whatever states follow
pub record SettledLasts (tape : List Counts) (f : Formula) : Type 0 where
  pub kept_stays : (more : List Counts) → Kept tape f → Kept (tape ++ more) f
  pub kept_ends_in_yes : (more : List Counts) → Kept tape f → Accepted (tape ++ more) f
  pub broken_stays : (more : List Counts) → Broken tape f → Broken (tape ++ more) f
  pub broken_ends_in_no : (more : List Counts) → Broken tape f → Accepted (tape ++ more) f → ⊥
  pub not_both : Kept tape f → Broken tape f → ⊥

abbrev pub SettledNeverTurns : Type 0
SettledNeverTurns = (tape : List Counts) (f : Formula) → SettledLasts tape f
