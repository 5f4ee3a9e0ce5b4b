-- One backward reading of a tape, over any worths. The list of runs, the worths of a tally and plain truth are its
-- instances.
use Rattle.std.specs.Prelude.{ℕ, ◌+◌, Bool, true, false, if◌then◌else◌, not, List, [], ◌∷◌}
use Rattle.temporal.specs.Formula.{Formula, atom, negation, unary, binary, nodes}
use Rattle.temporal.specs.Forms.{unary_form, binary_form, left_sign, accepts}
use Rattle.temporal.specs.Holds.{Answers}
use Rattle.temporal.specs.Nodes.{root}
use Rattle.temporal.specs.Tallies.{Worths, visit}
use Rattle.temporal.specs.declared.operators.Form.{Form}
use Rattle.temporal.specs.declared.operators.Form.TheVariants as form
use Rattle.temporal.specs.declared.operators.Unary.{Unary}
use Rattle.temporal.specs.declared.operators.Unary.TheVariants.{Next, Always, Eventually}

-- what a state counts for: whether it gives an atom the wanted answer, which is yes for a positive atom (false) and no for a
-- negative one (true). The theory asks no more of a state, so that an answer may count for neither.
abbrev pub Counts : Type 0
Counts = Bool → ℕ → Bool

-- a state by its answers: yes counts for an atom wanted yes, no for one wanted no
abbrev pub counted : Answers → Counts
counted s false a = s a
counted s true a = not (s a)

-- what a waiting operator awaits at the next state: `next` its operand, any other itself
abbrev pub awaited_by : Unary → Formula → Formula
awaited_by Next f = f
awaited_by Always f = unary Always f
awaited_by Eventually f = unary Eventually f

abbrev pub awaited : Formula → Formula
awaited (atom a) = atom a
awaited (negation f) = negation f
awaited (unary o f) = awaited_by o f
awaited (binary o f g) = binary o f g

module _ {X : Type 0} (m : Worths X) where
  -- a node of its waiting part w, its left operand x and its right operand y; an operator of one operand has it for both
  abbrev pub formed : Form → X → X → X → X
  formed form.And w x y = m.combined x y
  formed form.Or w x y = m.joined x y
  formed form.Next w x y = w
  formed form.Always w x y = m.combined w x
  formed form.Eventually w x y = m.joined w x
  formed form.Until w x y = m.joined y (m.combined w x)
  formed form.Release w x y = m.combined y (m.joined w x)

  -- a formula at one state, given its waiting parts (n: negative; b: the number of its first node)
  module _ (s : Counts) (waiting : Bool → ℕ → Formula → X) where
    abbrev pub here : Bool → ℕ → Formula → X
    here n b (atom a) = if s n a then m.weighs (visit b true) else m.none
    here n b (negation f) = here (not n) b f
    here n b (unary o f) = let x = here n b f in formed (unary_form o n) (waiting n b (unary o f)) x x
    here n b (binary o f g) = formed (binary_form o n) (waiting n b (binary o f g)) (here (left_sign o n) b f) (here n (b + nodes f) g)

  -- a waiting part: at the last state the visit alone, if accepting; before it the visit, and then what is awaited at the
  -- next state
  abbrev pub waiting_part : List Counts → (Bool → ℕ → Formula → X) → Bool → ℕ → Formula → X
  waiting_part [] after n b f = if accepts n f then m.weighs (visit (root b f) true) else m.none
  waiting_part (t ∷ later) after n b f = m.combined (m.weighs (visit (root b f) (accepts n f))) (after n b (awaited f))

  abbrev pub reading : List Counts → Bool → ℕ → Formula → X
  reading [] n b f = m.none
  reading (s ∷ later) n b f = here s (waiting_part later (reading later)) n b f
