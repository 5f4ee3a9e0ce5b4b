use Rattle.temporal.proofs.OfNodes.{visits_are_of_nodes}
use Rattle.temporal.proofs.laws.visits_are_of_nodes.Goals as goal

pub returns : goal.returns
returns c = visits_are_of_nodes
