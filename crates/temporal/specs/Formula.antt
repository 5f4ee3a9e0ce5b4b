-- Formulas of linear temporal logic, with future operators only; how many nodes one has, and how deep it nests.
use Rattle.std.specs.Prelude.{ℕ, ◌+◌, max}
use Rattle.temporal.specs.declared.operators.Unary.{Unary}
use Rattle.temporal.specs.declared.operators.Binary.{Binary}

pub data Formula : Type 0 where
  atom : ℕ → Formula
  negation : Formula → Formula
  unary : Unary → Formula → Formula
  binary : Binary → Formula → Formula → Formula

-- each atom and each operator but `not` is a node
abbrev pub nodes : Formula → ℕ
nodes (atom a) = 1
nodes (negation f) = nodes f
nodes (unary o f) = nodes f + 1
nodes (binary o f g) = nodes f + nodes g + 1

-- how deep formulas nest: the whole one has depth 1, an operand one more than its formula, and this is the greatest
abbrev pub depth : Formula → ℕ
depth (atom a) = 1
depth (negation f) = depth f + 1
depth (unary o f) = depth f + 1
depth (binary o f g) = max (depth f) (depth g) + 1
