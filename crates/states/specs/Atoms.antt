-- Atoms: each word of a kind's vocabulary beside what it means of a state.
use Rattle.std.specs.Prelude.{◌≡◌, ℕ, ◌≤◌, Bool, false, List, map, length, slice_index_or}
use Rattle.std.proofs.Common.{ap, arith}
use Rattle.std.proofs.lemmas.List.{get_or_past, length-map}
use Rattle.states.specs.Answers.{answered}
use Rattle.states.specs.declared.answer.Answer.{Answer}

pub record Atom (S : Type 0) : Type 0 where
  pub word : List ℕ
  pub means : S → Bool

module _ {S : Type 0} (atoms : List (Atom S)) where
  abbrev pub words_of : List (List ℕ)
  words_of = map (λ a. a.word) atoms

  -- a state's answers to the atoms in order; past the vocabulary the answer is no
  abbrev pub answers_by : S → ℕ → Answer
  answers_by s atom = answered (slice_index_or (map (λ a. a.means s) atoms) atom false)

  pub no_past : (s : S) (atom : ℕ) → length words_of ≤ atom → answers_by s atom ≡ answered false
  no_past s atom past =
      let means : List Bool = map (λ a. a.means s) atoms in
      let short : length means ≤ atom = omega (arith, length-map atoms (λ a. a.word), length-map atoms (λ a. a.means s)) in
      ap answered (get_or_past means atom false short)
