-- Which sets of waiting operators suffice, and when a standing is kept or broken.
use Rattle.std.specs.Prelude.{◌≡◌, ℕ, Bool, true, false, ◌&&◌, ◌||◌, List, [], ◌∷◌, reverse}
use Rattle.temporal.specs.Formula.{Formula}
use Rattle.temporal.specs.Forms.{accepts}
use Rattle.temporal.specs.Reading.{Counts, awaited, here}
use Rattle.temporal.specs.Tallies.{Worths}

abbrev pub truths : Worths Bool
truths = record { none = false; unit = true; joined = ◌||◌; combined = ◌&&◌; weighs = λ v. true }

-- a set of waiting operators, each known by its sign, the number of its formula's first node and its formula, and of the mark
-- `start`; what it says of anything but the rule's own waiting operators is never asked
pub record Marks : Type 0 where
  pub start : Bool
  pub waits : Bool → ℕ → Formula → Bool

-- whether a formula is true at a state given a set: a waiting part is true if its operator is in the set
abbrev pub true_given : Counts → Marks → Bool → ℕ → Formula → Bool
true_given s v = here truths s v.waits

-- the set that has to suffice before a state, for this one to suffice after it: `start` if the rule is true given this
-- set, each next or weak next whose operand is, each other waiting operator that is
abbrev pub earlier : Formula → Counts → Marks → Marks
earlier f s v = record { start = true_given s v false 0 f; waits = λ n b w. true_given s v n b (awaited w) }

-- whether a set suffices once these states are noted, the latest first; at making, if it has `start`
abbrev pub suffices : Formula → List Counts → Marks → Bool
suffices f [] v = v.start
suffices f (s ∷ noted) v = suffices f noted (earlier f s v)

-- every mark of the first is a mark of the second
pub record Within (v w : Marks) : Type 0 where
  pub start : v.start ≡ true → w.start ≡ true
  pub waits : (n : Bool) (b : ℕ) (f : Formula) → v.waits n b f ≡ true → w.waits n b f ≡ true

abbrev pub nothing : Marks
nothing = record { start = false; waits = λ n b w. false }

abbrev pub everything : Marks
everything = record { start = true; waits = λ n b w. true }

abbrev pub accepting_operators : Marks
accepting_operators = record { start = false; waits = λ n b w. accepts n w }

-- once the states of a tape are noted
module _ (tape : List Counts) (f : Formula) where
  -- the empty set suffices
  abbrev pub Kept : Type 0
  Kept = suffices f (reverse tape) nothing ≡ true

  -- the full set, `start` included, does not suffice
  abbrev pub Broken : Type 0
  Broken = suffices f (reverse tape) everything ≡ false

  -- the set of accepting operators suffices
  abbrev pub EndsInYes : Type 0
  EndsInYes = suffices f (reverse tape) accepting_operators ≡ true
