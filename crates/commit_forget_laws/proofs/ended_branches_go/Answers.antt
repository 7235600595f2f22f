use Rattle.commit_forget_laws.proofs.RowsGoLemmas.{ended_branches_go}
use Rattle.commit_forget_laws.proofs.ended_branches_go.Goals as goal

pub returns : goal.returns
returns c = ended_branches_go
