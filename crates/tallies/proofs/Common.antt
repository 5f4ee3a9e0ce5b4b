-- Shared nodes are those that every accepting run visits.
use Rattle.std.proofs.Common.{◌≡◌, ℕ, ◌<◌, true, ◌&&◌, ◌||◌, ◌↔◌, eqb, ltb, List, [], ◌∷◌, sym, refl, ap₂, ◌∙◌, arith}
use Rattle.std.specs.List.{AllByRecursion, Contains}
use Rattle.std.proofs.lemmas.Bool.{and_from, and_parts}
use Rattle.std.proofs.lemmas.Bool.Decides.{nat_tests}
use Rattle.std.proofs.lemmas.List.Elements.{Contains-get_or, recursion_from_All}
use Rattle.temporal.specs.Formula.{Formula}
use Rattle.temporal.specs.Reading.{Counts}
use Rattle.temporal.specs.Runs.{runs}
use Rattle.temporal.specs.Tallies.{Run}
use Rattle.temporal.proofs.Exact.{exactly}
use Rattle.temporal.proofs.Lists.{all_contained}
use Rattle.tallies.specs.Limits.{most_nodes}
use Rattle.tallies.specs.Shared.{has, node_sets}
use Rattle.tallies.specs.SharedLaws.{intersected, united}
use Rattle.tallies.specs.Statements.{SharedIsCommon, visits}
use Rattle.tallies.specs.declared.shared.NodeSet.{NodeSet}
use Rattle.tallies.proofs.Joint.{Grows, joint_is, none_accepted, total}
use Rattle.tallies.proofs.Sets.{sets_of_nodes}

-- a run comes to the set of the nodes that it visits
total_has : (run : Run) (k : ℕ) → k < most_nodes → has (total node_sets run) k ≡ visits run k
total_has [] k small = sets_of_nodes.empty k
total_has (v ∷ run) k small =
    let own : eqb k v.node && ltb k most_nodes ≡ eqb k v.node = grind (arith, nat_tests) in
    united (node_sets.weighs v) (total node_sets run) k ∙ ap₂ ◌||◌ (sets_of_nodes.weight v k ∙ own) (total_has run k small)

-- a list has some run, and a set the nodes that all its runs visit
record Common (rs : List Run) (x : NodeSet) : Type 0 where
  some : (run : Run) × Contains rs run
  common : (k : ℕ) → k < most_nodes → has x k ≡ true ↔ AllByRecursion (λ run. visits run k ≡ true) rs

common_more : (run : Run) (rs : List Run) (y : NodeSet) → Common rs y → Common (run ∷ rs) (node_sets.joined (total node_sets run) y)
common_more run rs y h = record {
  some = (run, (0, omega arith, refl));
  common = λ k small.
      let joined = intersected (total node_sets run) y k in
      let here = total_has run k small in (
        λ e. let (p, q) = and_parts _ _ (sym joined ∙ e) in (sym here ∙ p, (h.common k small).0 q),
        λ each. joined ∙ and_from _ _ (here ∙ each.0) ((h.common k small).1 each.1),
      );
}

common : Grows node_sets Common
common = record {
  one = λ run. record {
    some = (run, (0, omega arith, refl));
    common = λ k small. let here = total_has run k small in (λ e. (sym here ∙ e, tt), λ each. here ∙ each.0);
  };
  more = common_more;
}

pub shared_is_common : (tape : List Counts) (f : Formula) → SharedIsCommon tape f
shared_is_common tape f = record {
  none = none_accepted node_sets Common common tape f;
  some = λ x e. let (run, has) = (joint_is node_sets Common common tape f x e).some in (run, (exactly tape f run).0 has);
  common = λ x e k small.
      let both = (joint_is node_sets Common common tape f x e).common k small in (
        λ h run a. all_contained _ (runs tape f) run (both.0 h) ((exactly tape f run).1 a),
        λ each. both.1 (recursion_from_All _ (runs tape f) (λ i d lt. each _ ((exactly tape f _).0 (Contains-get_or (runs tape f) i d lt)))),
      );
}
