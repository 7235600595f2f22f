use Rattle.commit_point_laws.proofs.AskedEndLemmas.{undisturbed_asked_leave}
use Rattle.commit_point_laws.proofs.undisturbed_asked_leave.Goals as goal

pub returns : goal.returns
returns c = undisturbed_asked_leave
