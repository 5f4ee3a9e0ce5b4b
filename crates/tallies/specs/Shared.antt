-- Sets of nodes, by the bits of a number, as measures of runs; and the tally of shared nodes, whose worth is a sum of powers
-- of two, if there is one.
use Rattle.std.specs.Prelude.{ℕ, zero, suc, ◌+◌, ◌^◌, Bool, if◌then◌else◌, Option, ◌==◌, bit_and, bit_or, nat_lt}
use Rattle.std.specs.Int.{bit_at}
use Rattle.std.specs.Option.{option_map}
use Rattle.temporal.specs.Tallies.{Worths}
use Rattle.tallies.specs.Limits.{most_nodes}
use Rattle.tallies.specs.Measures.{Measures, with_none}
use Rattle.tallies.specs.declared.shared.NodeSet.{NodeSet}

abbrev pub of_bits : ℕ → NodeSet
of_bits n = record { bits = n }

-- whether a node is in a set
abbrev pub has : NodeSet → ℕ → Bool
has s k = bit_at s.bits k == 1

-- the sum of 2 to the power of each number below n that passes a test; shut, since with a numeral it would compute to a
-- sum of as many parts: `power_sum_is` is its law, and `SetsOfNodes.summed` what a clause says of it
unfoldable pub power_sum : (ℕ → Bool) → ℕ → ℕ
power_sum test zero = 0
power_sum test (suc k) = (if test k then 2 ^ k else 0) + power_sum test k

-- joining intersects, combining unites; a visit weighs its own node, of those that a rule can have
abbrev pub node_sets : Measures NodeSet
node_sets = record {
  unit = of_bits 0;
  joined = λ x y. of_bits (bit_and x.bits y.bits);
  combined = λ x y. of_bits (bit_or x.bits y.bits);
  weighs = λ v. of_bits (if nat_lt v.node most_nodes then 2 ^ v.node else 0);
}

abbrev pub shares : Worths (Option NodeSet)
shares = with_none node_sets

abbrev pub shared_sum : Option NodeSet → Option ℕ
shared_sum = option_map (λ x. power_sum (has x) most_nodes)
