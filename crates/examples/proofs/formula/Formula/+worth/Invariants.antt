use Rattle.std.proofs.Common.{◌+◌, length}
use Rattle.examples.proofs.formula.Formula.+worth.Given as goal

-- an operand is smaller, and what is awaited is asked of fewer states
abbrev pub decreases-worth : goal.decreases-worth
decreases-worth g l = goal.size-worth g l + length l.states.now
