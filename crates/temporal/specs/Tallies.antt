-- Runs, as lists of visits; what a tally is, and what a list of runs is worth by it.
use Rattle.std.specs.Prelude.{◌≡◌, ℕ, Bool, List, [], ◌∷◌}
use Rattle.temporal.specs.declared.visits.Visit.{Visit}

abbrev pub visit : ℕ → Bool → Visit
visit k a = record { node = k; accepting = a }

abbrev pub Run : Type 0
Run = List Visit

-- a tally's operations on its worths: none and unit, joining and combining, and what each visit weighs
pub record Worths (W : Type 0) : Type 0 where
  pub none : W
  pub unit : W
  pub joined : W → W → W
  pub combined : W → W → W
  pub weighs : Visit → W

-- what they have to keep; joining need not commute, so the order of runs counts
pub record Laws {W : Type 0} (m : Worths W) : Type 0 where
  pub joined_assoc : (x y z : W) → m.joined (m.joined x y) z ≡ m.joined x (m.joined y z)
  pub combined_assoc : (x y z : W) → m.combined (m.combined x y) z ≡ m.combined x (m.combined y z)
  pub none_joined : (x : W) → m.joined m.none x ≡ x
  pub joined_none : (x : W) → m.joined x m.none ≡ x
  pub unit_combined : (x : W) → m.combined m.unit x ≡ x
  pub combined_unit : (x : W) → m.combined x m.unit ≡ x
  pub none_combined : (x : W) → m.combined m.none x ≡ m.none
  pub combined_none : (x : W) → m.combined x m.none ≡ m.none
  pub combined_joined : (x y z : W) → m.combined x (m.joined y z) ≡ m.joined (m.combined x y) (m.combined x z)
  pub joined_combined : (x y z : W) → m.combined (m.joined x y) z ≡ m.joined (m.combined x z) (m.combined y z)
  pub none_is_not_unit : m.none ≡ m.unit → ⊥

module _ {W : Type 0} (m : Worths W) where
  -- a run's worth combines its weights in order
  abbrev pub worth : Run → W
  worth [] = m.unit
  worth (v ∷ run) = m.combined (m.weighs v) (worth run)

  -- the joint worth joins the runs' worths in order, and is none without runs
  abbrev pub joint : List Run → W
  joint [] = m.none
  joint (run ∷ runs) = m.joined (worth run) (joint runs)
