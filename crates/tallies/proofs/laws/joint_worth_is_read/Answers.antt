use Rattle.temporal.proofs.Worth.{joint_worth}
use Rattle.tallies.proofs.laws.joint_worth_is_read.Goals as goal

pub returns : goal.returns
returns g c = joint_worth g.W.Tally.worths g.met.W.Tally.laws
