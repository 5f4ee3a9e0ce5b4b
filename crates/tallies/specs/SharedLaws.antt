-- Sets of nodes keep the laws of measures: joining intersects, combining unites, and sets of the same nodes are equal.
use Rattle.std.specs.Prelude.{◌≡◌, ℕ, ◌<◌, min, max, ◌&&◌, ◌||◌, ◌==◌, nat_eq, refl}
use Rattle.std.specs.Int.Bits.{or_zero_r}
use Rattle.std.proofs.Common.{sym, ap, ap₂, ◌∙◌, arith}
use Rattle.std.proofs.Math.Bool.{or_assoc, or-and_distrib_left, or-and_distrib_right}
use Rattle.std.proofs.lemmas.Bool.Decides.{nat_tests}
use Rattle.std.proofs.lemmas.Nat.{and_assoc}
use Rattle.std.proofs.lemmas.Nat.Bits.{bit_at-lt, bit_at_and, bit_at_or, same_from_bits}
use Rattle.tallies.specs.Measures.{MeasureLaws}
use Rattle.tallies.specs.Shared.{has, node_sets, of_bits}
use Rattle.tallies.specs.declared.shared.NodeSet.{NodeSet}

-- digits as tests
module _ (a b : ℕ) (p : a < 2) (q : b < 2) where
  and_digit : (min a b == 1) ≡ (a == 1) && b == 1
  and_digit = grind (arith, nat_tests)

  or_digit : (max a b == 1) ≡ (a == 1) || b == 1
  or_digit = grind (arith, nat_tests)

  same_digit : (a == 1) ≡ (b == 1) → a ≡ b
  same_digit e = grind (arith, nat_tests)

module _ (x y : NodeSet) where
  pub intersected : (k : ℕ) → has (node_sets.joined x y) k ≡ has x k && has y k
  intersected k = ap (λ n. nat_eq n 1) (bit_at_and x.bits y.bits k) ∙ and_digit _ _ (bit_at-lt x.bits k) (bit_at-lt y.bits k)

  pub united : (k : ℕ) → has (node_sets.combined x y) k ≡ has x k || has y k
  united k = ap (λ n. nat_eq n 1) (bit_at_or x.bits y.bits k) ∙ or_digit _ _ (bit_at-lt x.bits k) (bit_at-lt y.bits k)

  pub same_nodes : ((k : ℕ) → has x k ≡ has y k) → x ≡ y
  same_nodes e = ap of_bits (same_from_bits x.bits y.bits (λ k. same_digit _ _ (bit_at-lt x.bits k) (bit_at-lt y.bits k) (e k)))

-- laws of sets from laws of tests
pub node_set_laws : MeasureLaws node_sets
node_set_laws = record {
  joined_assoc = λ x y z. ap of_bits (and_assoc z.bits x.bits y.bits);
  combined_assoc = λ x y z. same_nodes _ _ (λ k.
      united (node_sets.combined x y) z k ∙ ap (λ t. t || has z k) (united x y k)
      ∙ or_assoc (has x k) (has y k) (has z k)
      ∙ sym (united x (node_sets.combined y z) k ∙ ap (λ t. has x k || t) (united y z k)));
  unit_combined = λ x. refl;
  combined_unit = λ x. ap of_bits (or_zero_r x.bits);
  combined_joined = λ x y z. same_nodes _ _ (λ k.
      united x (node_sets.joined y z) k ∙ ap (λ t. has x k || t) (intersected y z k)
      ∙ or-and_distrib_left (has x k) (has y k) (has z k)
      ∙ sym (intersected (node_sets.combined x y) (node_sets.combined x z) k ∙ ap₂ ◌&&◌ (united x y k) (united x z k)));
  joined_combined = λ x y z. same_nodes _ _ (λ k.
      united (node_sets.joined x y) z k ∙ ap (λ t. t || has z k) (intersected x y k)
      ∙ or-and_distrib_right (has x k) (has y k) (has z k)
      ∙ sym (intersected (node_sets.combined x z) (node_sets.combined y z) k ∙ ap₂ ◌&&◌ (united x z k) (united y z k)));
}
