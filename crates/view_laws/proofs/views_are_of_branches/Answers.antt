use Rattle.view_laws.proofs.ViewLemmas.{views_are_of_branches}
use Rattle.view_laws.proofs.views_are_of_branches.Goals as goal

pub returns : goal.returns
returns c = views_are_of_branches
