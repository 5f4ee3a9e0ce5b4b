use Rattle.temporal.proofs.Ends.{settled_never_turns}
use Rattle.temporal.proofs.laws.settled_never_turns.Goals as goal

pub returns : goal.returns
returns c = settled_never_turns
