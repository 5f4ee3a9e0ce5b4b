-- Which lists of visits are accepting runs, as a relation: each constructor is one way to make a run.
use Rattle.std.specs.Prelude.{◌≡◌, ℕ, ◌+◌, Bool, true, false, not, List, [], ◌∷◌, ◌++◌}
use Rattle.temporal.specs.Formula.{Formula, atom, negation, unary, binary, nodes}
use Rattle.temporal.specs.Forms.{unary_form, binary_form, left_sign, accepts}
use Rattle.temporal.specs.Nodes.{root}
use Rattle.temporal.specs.Reading.{Counts, awaited}
use Rattle.temporal.specs.Tallies.{Run, visit}
use Rattle.temporal.specs.declared.operators.Form.{Form}
use Rattle.temporal.specs.declared.operators.Form.TheVariants as form
use Rattle.temporal.specs.declared.visits.Visit.{Visit}

-- the visit of node k alone, if allowed
pub data Alone (k : ℕ) (allowed : Bool) : Run → Type 0 where
  alone : allowed ≡ true → Alone k allowed (visit k true ∷ [])

-- a visit, followed by a run at the next state
pub data Onward (v : Visit) (After : Run → Type 0) : Run → Type 0 where
  onward : {x : Run} → After x → Onward v After (v ∷ x)

-- what a node's form makes of the runs of its waiting part, of its left (or only) and of its right operand
module _ (Waiting Left Right : Run → Type 0) where
  pub data Formed : Form → Run → Type 0 where
    -- a run of the left, followed by a run of the right
    and : {x y : Run} → Left x → Right y → Formed form.And (x ++ y)
    -- a run of the left, or one of the right
    or_left : {x : Run} → Left x → Formed form.Or x
    or_right : {y : Run} → Right y → Formed form.Or y
    -- next and weak next: the waiting part
    next : {w : Run} → Waiting w → Formed form.Next w
    -- waiting part and operand
    always : {w x : Run} → Waiting w → Left x → Formed form.Always (w ++ x)
    -- waiting part or operand
    eventually_later : {w : Run} → Waiting w → Formed form.Eventually w
    eventually_now : {x : Run} → Left x → Formed form.Eventually x
    -- until and unless: right, or else waiting part and left
    until_now : {y : Run} → Right y → Formed form.Until y
    until_later : {w x : Run} → Waiting w → Left x → Formed form.Until (w ++ x)
    -- release and strong release: right, and then waiting part or left
    release_later : {y w : Run} → Right y → Waiting w → Formed form.Release (y ++ w)
    release_now : {y x : Run} → Right y → Left x → Formed form.Release (y ++ x)

-- the runs of a formula at one state, given those of its waiting parts (n: negative; b: the number of its first node)
module _ (s : Counts) (Waiting : Bool → ℕ → Formula → Run → Type 0) where
  abbrev pub AcceptsHere : Bool → ℕ → Formula → Run → Type 0
  AcceptsHere n b (atom a) = Alone b (s n a)
  AcceptsHere n b (negation f) = AcceptsHere (not n) b f
  AcceptsHere n b (unary o f) = Formed (Waiting n b (unary o f)) (AcceptsHere n b f) (AcceptsHere n b f) (unary_form o n)
  AcceptsHere n b (binary o f g) = Formed (Waiting n b (binary o f g)) (AcceptsHere (left_sign o n) b f) (AcceptsHere n (b + nodes f) g) (binary_form o n)

-- a waiting part: at the last state the visit alone, if accepting; before it the visit, followed by a run at the next state
-- of what is awaited
abbrev pub Waits : List Counts → (Bool → ℕ → Formula → Run → Type 0) → Bool → ℕ → Formula → Run → Type 0
Waits [] After n b f = Alone (root b f) (accepts n f)
Waits (t ∷ later) After n b f = Onward (visit (root b f) (accepts n f)) (After n b (awaited f))

abbrev pub AcceptsFrom : List Counts → Bool → ℕ → Formula → Run → Type 0
AcceptsFrom [] n b f run = ⊥
AcceptsFrom (s ∷ later) n b f run = AcceptsHere s (Waits later (AcceptsFrom later)) n b f run

-- the accepting runs of a tape are those of the rule at the first state; an empty tape has none
abbrev pub Accepts : List Counts → Formula → Run → Type 0
Accepts tape f run = AcceptsFrom tape false 0 f run

abbrev pub Accepted : List Counts → Formula → Type 0
Accepted tape f = (run : Run) × Accepts tape f run
