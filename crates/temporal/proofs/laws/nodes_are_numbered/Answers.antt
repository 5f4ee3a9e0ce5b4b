use Rattle.temporal.proofs.Numbers.{numbered_in_order}
use Rattle.temporal.proofs.laws.nodes_are_numbered.Goals as goal

pub returns : goal.returns
returns c = numbered_in_order
