use Rattle.tallies.proofs.Common.{shared_is_common}
use Rattle.tallies.proofs.Least.{overdue_is_least}
use Rattle.tallies.proofs.Telling.{verdict_tells}
use Rattle.tallies.proofs.laws.tallies_tell.Goals as goal

pub returns : goal.returns
returns c tape f = record { verdict = verdict_tells tape f; overdue = overdue_is_least tape f; shared = shared_is_common tape f }
