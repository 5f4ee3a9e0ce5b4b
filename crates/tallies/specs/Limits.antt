-- How far the tallies count.
use Rattle.std.specs.Prelude.{ℕ}

-- the largest overdue count; more visits are counted as so many
abbrev pub cap : ℕ
cap = 4294967295

-- how many nodes a rule can have
abbrev pub most_nodes : ℕ
most_nodes = 64
