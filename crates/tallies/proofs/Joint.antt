-- By a tally of measures with none added, the worth of a run is what its visits' measures combine to, and that of a list of
-- runs is none only without runs.
use Rattle.std.proofs.Common.{◌≡◌, List, [], ◌∷◌, Some, None, Option, sym, refl, ap, subst, arith}
use Rattle.std.specs.List.{Contains}
use Rattle.temporal.specs.Accepts.{Accepted}
use Rattle.temporal.specs.Formula.{Formula}
use Rattle.temporal.specs.Reading.{Counts}
use Rattle.temporal.specs.Runs.{runs}
use Rattle.temporal.specs.Tallies.{Run, joint, worth}
use Rattle.temporal.proofs.Exact.{exactly}
use Rattle.tallies.specs.Measures.{Measures, both, either, with_none}

module _ {X : Type 0} (m : Measures X) where
  -- what a run comes to
  abbrev pub total : Run → X
  total [] = m.unit
  total (v ∷ run) = m.combined (m.weighs v) (total run)

  run_worth : (run : Run) → worth (with_none m) run ≡ Some (total run)
  run_worth [] = refl
  run_worth (v ∷ run) = ap (both m (Some (m.weighs v))) (run_worth run)

  -- a property of lists with runs and what they come to, shown of one run and kept by each run put before
  pub record Grows (P : List Run → X → Type 0) : Type 0 where
    pub one : (run : Run) → P (run ∷ []) (total run)
    pub more : (run : Run) (rs : List Run) (x : X) → P rs x → P (run ∷ rs) (m.joined (total run) x)

  module _ (P : List Run → X → Type 0) (grows : Grows P) where
    abbrev Told : List Run → Option X → Type 0
    Told rs None = rs ≡ []
    Told rs (Some x) = P rs x

    told_more : (run : Run) (rs : List Run) (o : Option X) → Told rs o → Told (run ∷ rs) (either m (Some (total run)) o)
    told_more run rs None e = subst (λ l. P (run ∷ l) (total run)) (sym e) (grows.one run)
    told_more run rs (Some x) p = grows.more run rs x p

    told : (rs : List Run) → Told rs (joint (with_none m) rs)
    told [] = refl
    told (run ∷ rs) = subst (λ o. Told (run ∷ rs) (either m o (joint (with_none m) rs))) (sym (run_worth run)) (told_more run rs (joint (with_none m) rs) (told rs))

    module _ (tape : List Counts) (f : Formula) where
      -- so what is shown so holds of the accepting runs, where their joint worth is not none
      pub joint_is : (x : X) → joint (with_none m) (runs tape f) ≡ Some x → P (runs tape f) x
      joint_is x e = subst (Told (runs tape f)) e (told (runs tape f))

      pub none_accepted : joint (with_none m) (runs tape f) ≡ None → Accepted tape f → ⊥
      none_accepted e (run, a) =
          let no_runs : runs tape f ≡ [] = subst (Told (runs tape f)) e (told (runs tape f)) in
          let here : Contains [] run = subst (λ rs. Contains rs run) no_runs ((exactly tape f run).1 a) in
          absurd (omega (arith, here.1))
