-- The theorems about tallies, each the contract of a public call.
use Rattle.std.specs.Prelude.{◌≡◌, ℕ, ◌+◌, ◌^◌, ◌<◌, ◌≤◌, min, Bool, true, false, if◌then◌else◌, ◌&&◌, ◌||◌, ◌↔◌, List, [], ◌∷◌, Some, None, ◌==◌, nat_lt}
use Rattle.temporal.specs.Accepts.{Accepted, Accepts}
use Rattle.temporal.specs.Formula.{Formula}
use Rattle.temporal.specs.Reading.{Counts}
use Rattle.temporal.specs.Runs.{runs}
use Rattle.temporal.specs.Tallies.{Run, joint}
use Rattle.temporal.specs.declared.visits.Visit.{Visit}
use Rattle.tallies.specs.Limits.{cap, most_nodes}
use Rattle.tallies.specs.Overdue.{overdues}
use Rattle.tallies.specs.Shared.{has, node_sets, power_sum, shares}
use Rattle.tallies.specs.Verdicts.{says, verdicts}
use Rattle.tallies.specs.declared.overdue.Count.{Count}
use Rattle.tallies.specs.declared.shared.NodeSet.{NodeSet}

-- how many of a run's visits are rejecting
abbrev pub rejecting : Run → ℕ
rejecting [] = 0
rejecting (v ∷ run) = (if v.accepting then 0 else 1) + rejecting run

-- whether a run visits a node
abbrev pub visits : Run → ℕ → Bool
visits [] k = false
visits (v ∷ run) k = k == v.node || visits run k

module _ (tape : List Counts) (f : Formula) where
  -- the verdict is yes exactly when there is an accepting run
  abbrev pub VerdictTells : Type 0
  VerdictTells = says (joint verdicts (runs tape f)) ≡ true ↔ Accepted tape f

  -- overdue is none only without an accepting run; else it is the least number of rejecting visits of one, capped
  pub record OverdueIsLeast : Type 0 where
    pub none : joint overdues (runs tape f) ≡ None → Accepted tape f → ⊥
    pub least : (x : Count) → joint overdues (runs tape f) ≡ Some x → (run : Run) → Accepts tape f run → x.number ≤ min (rejecting run) cap
    pub reached : (x : Count) → joint overdues (runs tape f) ≡ Some x → (run : Run) × Accepts tape f run × (x.number ≡ min (rejecting run) cap)

  -- shared is none only without an accepting run; else it has the nodes that every one visits
  pub record SharedIsCommon : Type 0 where
    pub none : joint shares (runs tape f) ≡ None → Accepted tape f → ⊥
    pub some : (x : NodeSet) → joint shares (runs tape f) ≡ Some x → Accepted tape f
    pub common : (x : NodeSet) → joint shares (runs tape f) ≡ Some x → (k : ℕ) → k < most_nodes → has x k ≡ true ↔ ((run : Run) → Accepts tape f run → visits run k ≡ true)

pub record TalliesTell (tape : List Counts) (f : Formula) : Type 0 where
  pub verdict : VerdictTells tape f
  pub overdue : OverdueIsLeast tape f
  pub shared : SharedIsCommon tape f

abbrev pub AllTell : Type 0
AllTell = (tape : List Counts) (f : Formula) → TalliesTell tape f

-- which nodes the empty set, a weight, a joining and a combining have; sets of the same nodes are equal, and the number whose
-- bits they are is the sum of powers
pub record SetsOfNodes : Type 0 where
  pub empty : (k : ℕ) → has node_sets.unit k ≡ false
  pub weight : (v : Visit) (k : ℕ) → has (node_sets.weighs v) k ≡ (k == v.node) && nat_lt k most_nodes
  pub intersected : (x y : NodeSet) (k : ℕ) → has (node_sets.joined x y) k ≡ has x k && has y k
  pub united : (x y : NodeSet) (k : ℕ) → has (node_sets.combined x y) k ≡ has x k || has y k
  pub equal : (x y : NodeSet) → ((k : ℕ) → has x k ≡ has y k) → x ≡ y
  pub summed : (x : NodeSet) → x.bits < 2 ^ most_nodes → x.bits ≡ power_sum (has x) most_nodes
