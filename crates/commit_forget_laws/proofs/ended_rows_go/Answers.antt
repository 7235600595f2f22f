use Rattle.commit_forget_laws.proofs.RowsGoLemmas.{ended_rows_go}
use Rattle.commit_forget_laws.proofs.ended_rows_go.Goals as goal

pub returns : goal.returns
returns c = ended_rows_go
