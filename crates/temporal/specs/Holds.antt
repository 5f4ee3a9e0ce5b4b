-- When a formula holds at a position of a tape. Every position is below the tape's length, so `next f` does not
-- hold at the last one.
use Rattle.std.specs.Prelude.{◌≡◌, ℕ, ◌+◌, ◌<◌, ◌≤◌, Bool, true, false, ◌⊎◌, List, length, slice_index_or}
use Rattle.temporal.specs.Formula.{Formula, atom, negation, unary, binary}
use Rattle.temporal.specs.declared.operators.Unary.TheVariants.{Next, Always, Eventually}
use Rattle.temporal.specs.declared.operators.Binary.TheVariants.{And, Or, Implies, Until, Unless}

-- what a state means: a yes or no for each atom
abbrev pub Answers : Type 0
Answers = ℕ → Bool

module _ (tape : List Answers) where
  -- j is a position of the tape, from i on
  abbrev From : ℕ → ℕ → Type 0
  From i j = (i ≤ j) × (j < length tape)

  abbrev pub Throughout : (ℕ → Type 0) → ℕ → Type 0
  Throughout P i = (j : ℕ) → From i j → P j

  abbrev pub Somewhere : (ℕ → Type 0) → ℕ → Type 0
  Somewhere P i = (j : ℕ) × From i j × P j

  -- Q somewhere, and P at each position before
  abbrev pub Reached : (ℕ → Type 0) → (ℕ → Type 0) → ℕ → Type 0
  Reached P Q i = (k : ℕ) × From i k × Q k × ((j : ℕ) → i ≤ j → j < k → P j)

  abbrev pub Holds : Formula → ℕ → Type 0
  Holds (atom a) i = slice_index_or tape i (λ _. false) a ≡ true
  Holds (negation f) i = Holds f i → ⊥
  Holds (unary Next f) i = (i + 1 < length tape) × Holds f (i + 1)
  Holds (unary Always f) i = Throughout (Holds f) i
  Holds (unary Eventually f) i = Somewhere (Holds f) i
  Holds (binary And f g) i = Holds f i × Holds g i
  Holds (binary Or f g) i = Holds f i ⊎ Holds g i
  Holds (binary Implies f g) i = (Holds f i → ⊥) ⊎ Holds g i
  Holds (binary Until f g) i = Reached (Holds f) (Holds g) i
  Holds (binary Unless f g) i = Reached (Holds f) (Holds g) i ⊎ Throughout (Holds f) i
