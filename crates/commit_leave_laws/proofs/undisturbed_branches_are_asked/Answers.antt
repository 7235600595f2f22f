use Rattle.commit_leave_laws.proofs.RootAskLemmas.{undisturbed_branches_are_asked}
use Rattle.commit_leave_laws.proofs.undisturbed_branches_are_asked.Goals as goal

pub returns : goal.returns
returns c = undisturbed_branches_are_asked
