-- The accepting runs at one state, operator by operator and in order: what the list comes to, for either sign.
use Rattle.std.specs.Prelude.{◌≡◌, ℕ, ◌+◌, Bool, true, false, if◌then◌else◌, not, List, [], ◌∷◌, ◌++◌, map}
use Rattle.temporal.specs.Formula.{Formula, atom, negation, unary, binary, nodes}
use Rattle.temporal.specs.Forms.{accepts}
use Rattle.temporal.specs.Nodes.{root}
use Rattle.temporal.specs.Reading.{Counts, awaited, waiting_part}
use Rattle.temporal.specs.Runs.{followed, run_lists, runs_from}
use Rattle.temporal.specs.Tallies.{Run, visit}
use Rattle.temporal.specs.declared.operators.Unary.{Unary}
use Rattle.temporal.specs.declared.operators.Unary.TheVariants.{Next, Always, Eventually}
use Rattle.temporal.specs.declared.operators.Binary.{Binary}
use Rattle.temporal.specs.declared.operators.Binary.TheVariants.{And, Or, Implies, Until, Unless}

abbrev positive : Bool
positive = false

abbrev negative : Bool
negative = true

-- the runs of a waiting part, before these states
abbrev pub waiting : List Counts → Bool → ℕ → Formula → List Run
waiting later = waiting_part run_lists later (runs_from later)

-- at a state s before these states, of formulas f and g, where the first node has the number b
module _ (s : Counts) (later : List Counts) (b : ℕ) (f g : Formula) where
  abbrev of_atom : Bool → ℕ → List Run
  of_atom n a = runs_from (s ∷ later) n b (atom a)

  abbrev of_one : Bool → Unary → List Run
  of_one n o = runs_from (s ∷ later) n b (unary o f)

  abbrev of_two : Bool → Binary → List Run
  of_two n o = runs_from (s ∷ later) n b (binary o f g)

  abbrev left : Bool → List Run
  left n = runs_from (s ∷ later) n b f

  abbrev right : Bool → List Run
  right n = runs_from (s ∷ later) n (b + nodes f) g

  abbrev one_waits : Bool → Unary → List Run
  one_waits n o = waiting later n b (unary o f)

  abbrev two_waits : Bool → Binary → List Run
  two_waits n o = waiting later n b (binary o f g)

  pub record ListedInOrder : Type 0 where
    -- the visit of the node, if the state gives the wanted answer
    pub atoms : (n : Bool) (a : ℕ) → of_atom n a ≡ (if s n a then (visit b true ∷ []) ∷ [] else [])
    pub nots : (n : Bool) → runs_from (s ∷ later) n b (negation f) ≡ left (not n)
    -- each run of the left, followed by each run of the right
    pub and : of_two positive And ≡ followed (left positive) (right positive)
    pub negative_or : of_two negative Or ≡ followed (left negative) (right negative)
    pub negative_implies : of_two negative Implies ≡ followed (left positive) (right negative)
    -- the runs of the left, then those of the right
    pub or : of_two positive Or ≡ left positive ++ right positive
    pub negative_and : of_two negative And ≡ left negative ++ right negative
    pub implies : of_two positive Implies ≡ left negative ++ right positive
    -- next and weak next: the waiting part
    pub next : (n : Bool) → of_one n Next ≡ one_waits n Next
    -- always: waiting part and operand
    pub always : of_one positive Always ≡ followed (one_waits positive Always) (left positive)
    pub negative_eventually : of_one negative Eventually ≡ followed (one_waits negative Eventually) (left negative)
    -- eventually: waiting part or operand
    pub eventually : of_one positive Eventually ≡ one_waits positive Eventually ++ left positive
    pub negative_always : of_one negative Always ≡ one_waits negative Always ++ left negative
    -- until and unless: right, or else waiting part and left
    pub until : of_two positive Until ≡ right positive ++ followed (two_waits positive Until) (left positive)
    pub unless : of_two positive Unless ≡ right positive ++ followed (two_waits positive Unless) (left positive)
    -- release and strong release: right, and then waiting part or left
    pub negative_until : of_two negative Until ≡ followed (right negative) (two_waits negative Until ++ left negative)
    pub negative_unless : of_two negative Unless ≡ followed (right negative) (two_waits negative Unless ++ left negative)

-- a waiting part: at the last state the visit alone, if accepting; before it the visit, followed by each run at the next state
pub record WaitsInOrder (n : Bool) (b : ℕ) (f : Formula) : Type 0 where
  pub last : waiting [] n b f ≡ (if accepts n f then (visit (root b f) true ∷ []) ∷ [] else [])
  pub before : (t : Counts) (later : List Counts) → waiting (t ∷ later) n b f ≡ map (λ run. visit (root b f) (accepts n f) ∷ run) (runs_from (t ∷ later) n b (awaited f))
