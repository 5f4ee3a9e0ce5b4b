-- Truth is a reading too: it tells whether there are accepting runs.
use Rattle.std.proofs.Common.{◌≡◌, Bool, true, false, ◌&&◌, ◌||◌, ◌↔◌, List, [], ◌∷◌, ◌++◌, sym, refl, ◌∙◌, ap₂, arith}
use Rattle.std.proofs.lemmas.Bool.{false≢true}
use Rattle.std.specs.List.{Contains}
use Rattle.temporal.specs.Accepts.{Accepted}
use Rattle.temporal.specs.Formula.{Formula}
use Rattle.temporal.specs.Reading.{Counts, reading}
use Rattle.temporal.specs.Runs.{followed, run_lists, runs}
use Rattle.temporal.specs.Suffices.{truths}
use Rattle.temporal.specs.Tallies.{Run}
use Rattle.temporal.proofs.Exact.{exactly}
use Rattle.temporal.proofs.Related.{Keeps, related}

abbrev some : List Run → Bool
some [] = false
some (r ∷ rs) = true

some-++ : (xs ys : List Run) → some (xs ++ ys) ≡ some xs || some ys
some-++ [] ys = refl
some-++ (x ∷ xs) ys = refl

some_followed : (xs ys : List Run) → some (followed xs ys) ≡ some xs && some ys
some_followed [] ys = refl
some_followed (x ∷ xs) (y ∷ ys) = refl
some_followed (x ∷ []) [] = refl
some_followed (x ∷ (z ∷ xs)) [] = some_followed (z ∷ xs) []

keeps_some : Keeps run_lists truths (λ rs t. some rs ≡ t)
keeps_some = record {
  none = refl;
  joined = λ x u y v p q. some-++ x u ∙ ap₂ ◌||◌ p q;
  combined = λ x u y v p q. some_followed x u ∙ ap₂ ◌&&◌ p q;
  weighs = λ v. refl;
}

-- a list that has some run has a first one
some_first : (rs : List Run) → some rs ≡ true ↔ ((run : Run) × Contains rs run)
some_first [] = (λ e. absurd (false≢true e), λ (run, h). absurd (omega (arith, h.1)))
some_first (r ∷ rs) = (λ e. (r, (0, omega arith, refl)), λ h. refl)

pub truth_tells : (tape : List Counts) (f : Formula) → reading truths tape false 0 f ≡ true ↔ Accepted tape f
truth_tells tape f =
    let same = related _ keeps_some tape false 0 f in
    let first = some_first (runs tape f) in
    (λ e. let (run, h) = first.0 (same ∙ e) in (run, (exactly tape f run).0 h), λ (run, a). sym same ∙ first.1 (run, (exactly tape f run).1 a))
