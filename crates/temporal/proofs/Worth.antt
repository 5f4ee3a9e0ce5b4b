-- The joint worth of the runs is the reading by the tally's own operations.
use Rattle.std.proofs.Common.{◌≡◌, List, [], ◌∷◌, ◌++◌, map, sym, refl, ap, ◌∙◌, ap₂}
use Rattle.temporal.specs.Runs.{followed, run_lists}
use Rattle.temporal.specs.Statements.{JointWorth}
use Rattle.temporal.specs.Tallies.{Laws, Run, Worths, joint, worth}
use Rattle.temporal.proofs.Related.{Keeps, related}

module _ {W : Type 0} (m : Worths W) (laws : Laws m) where
  worth-++ : (x y : Run) → worth m (x ++ y) ≡ m.combined (worth m x) (worth m y)
  worth-++ [] y = sym (laws.unit_combined (worth m y))
  worth-++ (v ∷ x) y = ap (m.combined (m.weighs v)) (worth-++ x y) ∙ sym (laws.combined_assoc (m.weighs v) (worth m x) (worth m y))

  joint-++ : (xs ys : List Run) → joint m (xs ++ ys) ≡ m.joined (joint m xs) (joint m ys)
  joint-++ [] ys = sym (laws.none_joined (joint m ys))
  joint-++ (x ∷ xs) ys = ap (m.joined (worth m x)) (joint-++ xs ys) ∙ sym (laws.joined_assoc (worth m x) (joint m xs) (joint m ys))

  joint_prefixed : (x : Run) (ys : List Run) → joint m (map (λ y. x ++ y) ys) ≡ m.combined (worth m x) (joint m ys)
  joint_prefixed x [] = sym (laws.combined_none (worth m x))
  joint_prefixed x (y ∷ ys) = ap₂ m.joined (worth-++ x y) (joint_prefixed x ys) ∙ sym (laws.combined_joined (worth m x) (worth m y) (joint m ys))

  joint_followed : (xs ys : List Run) → joint m (followed xs ys) ≡ m.combined (joint m xs) (joint m ys)
  joint_followed [] ys = sym (laws.none_combined (joint m ys))
  joint_followed (x ∷ xs) ys =
      joint-++ (map (λ y. x ++ y) ys) (followed xs ys)
      ∙ ap₂ m.joined (joint_prefixed x ys) (joint_followed xs ys)
      ∙ sym (laws.joined_combined (worth m x) (joint m xs) (joint m ys))

  keeps_joint : Keeps run_lists m (λ xs w. joint m xs ≡ w)
  keeps_joint = record {
    none = refl;
    joined = λ x u y v p q. joint-++ x u ∙ ap₂ m.joined p q;
    combined = λ x u y v p q. joint_followed x u ∙ ap₂ m.combined p q;
    weighs = λ v. laws.joined_none (m.combined (m.weighs v) m.unit) ∙ laws.combined_unit (m.weighs v);
  }

  pub joint_worth : JointWorth m
  joint_worth = related _ keeps_joint
