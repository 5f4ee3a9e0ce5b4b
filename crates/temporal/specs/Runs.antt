-- The accepting runs of a tape, listed in order.
use Rattle.std.specs.Prelude.{ℕ, Bool, false, List, [], ◌∷◌, ◌++◌, map}
use Rattle.temporal.specs.Formula.{Formula}
use Rattle.temporal.specs.Reading.{Counts, reading}
use Rattle.temporal.specs.Tallies.{Run, Worths}

-- each run of the first list, followed by each run of the second
abbrev pub followed : List Run → List Run → List Run
followed [] ys = []
followed (x ∷ xs) ys = map (λ y. x ++ y) ys ++ followed xs ys

abbrev pub run_lists : Worths (List Run)
run_lists = record { none = []; unit = [] ∷ []; joined = ◌++◌; combined = followed; weighs = λ v. (v ∷ []) ∷ [] }

abbrev pub runs_from : List Counts → Bool → ℕ → Formula → List Run
runs_from = reading run_lists

-- those of the rule at the first state; an empty tape has none
abbrev pub runs : List Counts → Formula → List Run
runs tape f = runs_from tape false 0 f
