use Rattle.answer_laws.proofs.EndingLemmas.{pending_commits_came}
use Rattle.answer_laws.proofs.pending_commits_came.Goals as goal

pub returns : goal.returns
returns c = pending_commits_came
