-- Nothing is done to the second disk where the first fails.
use Rattle.checkpoint.proofs.Swapped.{untouched}
use Rattle.checkpoint.proofs.two_logs.TwoLogs.create.Goals as goal

pub returns-in-Err-clause-second_moments : goal.returns-in-Err-clause-second_moments
returns-in-Err-clause-second_moments g c = λ only. untouched _ _ g.D.Disk.images _ (g.met.D.Disk.only_now _) only
