-- What appending a state to a tape does.
use Rattle.std.specs.Prelude.{◌≡◌, ℕ, List, [], ◌∷◌, ◌++◌, length, Result, MatchResult}
use Rattle.refusals.specs.Causes.{By}
use Rattle.refusals.specs.declared.Refusal.{Refusal}

-- The state stands at the end of the list, unless the tape is full: exactly then it is refused, with
-- its length, and the list stays.
module _ {S : Type 0} (capacity : ℕ) (state : S) (before after : List S) where
  pub record Grown : Type 0 where
    pub room : length before ≡ capacity → ⊥
    pub longer : after ≡ before ++ state ∷ []

  pub record Full (e : Refusal) : Type 0 where
    pub full : length before ≡ capacity
    pub refused : By 15 (length before) e
    pub same : after ≡ before

  abbrev pub Appends : Result (Unit {0}) Refusal → Type 0
  Appends r = MatchResult r (λ _. Grown) Full

-- What lent memory holds after an append: as written, or as before where the append is refused.
abbrev pub Stores : {M : Type 0} → M → M → M → Result (Unit {0}) Refusal → Type 0
Stores before written after r = MatchResult r (λ _. after ≡ written) (λ _. after ≡ before)
