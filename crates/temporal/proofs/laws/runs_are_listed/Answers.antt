use Rattle.temporal.proofs.Once.{runs_are_listed}
use Rattle.temporal.proofs.laws.runs_are_listed.Goals as goal

pub returns-clause-exactly : goal.returns-clause-exactly
returns-clause-exactly c = runs_are_listed
