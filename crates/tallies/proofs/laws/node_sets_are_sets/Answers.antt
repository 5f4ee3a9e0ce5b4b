use Rattle.tallies.proofs.Sets.{sets_of_nodes}
use Rattle.tallies.proofs.laws.node_sets_are_sets.Goals as goal

pub returns : goal.returns
returns c = sets_of_nodes
