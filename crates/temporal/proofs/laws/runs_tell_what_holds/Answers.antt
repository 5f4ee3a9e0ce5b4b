use Rattle.temporal.proofs.Meaning.{meaning}
use Rattle.temporal.proofs.laws.runs_tell_what_holds.Goals as goal

pub returns-clause-meaning : goal.returns-clause-meaning
returns-clause-meaning c = meaning
