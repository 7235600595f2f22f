use Rattle.commit_point_laws.proofs.WalkEndLemmas.{undisturbed_walks_end}
use Rattle.commit_point_laws.proofs.undisturbed_walks_end.Goals as goal

pub returns : goal.returns
returns c = undisturbed_walks_end
