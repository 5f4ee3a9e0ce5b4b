-- The nodes of a formula, by their numbers: operands first, left before right, then the operator; and which of them wait.
use Rattle.std.specs.Prelude.{ℕ, ◌+◌, ◌-◌, Bool, true, false, not, List, [], ◌∷◌, ◌++◌, filter}
use Rattle.temporal.specs.Formula.{Formula, atom, negation, unary, binary, nodes}
use Rattle.temporal.specs.Forms.{accepts, binary_waits, left_sign}
use Rattle.temporal.specs.Tallies.{visit}
use Rattle.temporal.specs.declared.visits.Visit.{Visit}

-- the number of a formula's own node, if b is the number of its first one; `not f` has that of f
abbrev pub root : ℕ → Formula → ℕ
root b f = b + nodes f - 1

-- a node is known by its sign, the number of its formula's first node, and its formula
pub record Node : Type 0 where
  pub negative : Bool
  pub first : ℕ
  pub formula : Formula

abbrev pub node : Bool → ℕ → Formula → Node
node n b f = record { negative = n; first = b; formula = f }

abbrev pub number : Node → ℕ
number x = root x.first x.formula

-- the nodes in order, of a formula that is negative (n) or not, and whose first node has the number b
abbrev pub in_order : Bool → ℕ → Formula → List Node
in_order n b (atom a) = node n b (atom a) ∷ []
in_order n b (negation f) = in_order (not n) b f
in_order n b (unary o f) = in_order n b f ++ (node n b (unary o f) ∷ [])
in_order n b (binary o f g) = in_order (left_sign o n) b f ++ (in_order n (b + nodes f) g ++ (node n b (binary o f g) ∷ []))

-- the visit of a node
abbrev pub visit_of : Node → Visit
visit_of x = visit (number x) (accepts x.negative x.formula)

abbrev pub waits : Formula → Bool
waits (atom a) = false
waits (negation f) = waits f
waits (unary o f) = true
waits (binary o f g) = binary_waits o

-- the waiting operators of a formula, in the order of their nodes
abbrev pub waiting_operators : Bool → ℕ → Formula → List Node
waiting_operators n b f = filter (λ x. waits x.formula) (in_order n b f)
