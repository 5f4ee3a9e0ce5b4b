use Rattle.temporal.proofs.Ends.{end_is_verdict}
use Rattle.temporal.proofs.laws.end_is_verdict.Goals as goal

pub returns : goal.returns
returns c = end_is_verdict
