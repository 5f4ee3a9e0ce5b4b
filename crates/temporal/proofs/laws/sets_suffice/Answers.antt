use Rattle.temporal.proofs.Ends.{sets_grow}
use Rattle.temporal.proofs.Own.{own_operators_decide}
use Rattle.temporal.proofs.laws.sets_suffice.Goals as goal

pub returns : goal.returns
returns c = record { grow = sets_grow; own = own_operators_decide }
