use Rattle.commit_answer_laws.proofs.CauseRunLemmas.{commits_end_for_cause}
use Rattle.commit_answer_laws.proofs.commits_end_for_cause.Goals as goal

pub returns : goal.returns
returns c = commits_end_for_cause
