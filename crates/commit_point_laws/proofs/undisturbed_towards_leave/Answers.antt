use Rattle.commit_point_laws.proofs.WalkEndLemmas.{undisturbed_towards_leave}
use Rattle.commit_point_laws.proofs.undisturbed_towards_leave.Goals as goal

pub returns : goal.returns
returns c = undisturbed_towards_leave
