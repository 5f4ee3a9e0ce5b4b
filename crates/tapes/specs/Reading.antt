-- What asking a tape for the state at a place answers.
use Rattle.std.specs.Prelude.{◌≡◌, ℕ, ◌<◌, ◌≤◌, List, length, Option, MatchOption, slice_index_or}

-- nothing from the list's end on, and before it the state there
abbrev pub Found : {S : Type 0} → List S → ℕ → Option S → Type 0
Found states place r = MatchOption r (length states ≤ place) (λ s. (place < length states) × (s ≡ slice_index_or states place s))
