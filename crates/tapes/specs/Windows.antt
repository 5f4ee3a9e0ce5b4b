-- Which bounds a window may have.
use Rattle.std.specs.Prelude.{ℕ, ◌<◌, ◌≤◌, ◌⊎◌, Result, MatchResult}
use Rattle.refusals.specs.Causes.{By}
use Rattle.refusals.specs.declared.Refusal.{Refusal}

-- from start up to and without end, on a tape of this length
module _ (length start end : ℕ) where
  abbrev pub Inside : Type 0
  Inside = (start ≤ end) × (end ≤ length)

  abbrev pub Outside : Type 0
  Outside = (end < start) ⊎ (length < end)

  abbrev pub Checked : Result (Unit {0}) Refusal → Type 0
  Checked r = MatchResult r (λ _. Inside) (λ e. Outside × By 12 start e)
