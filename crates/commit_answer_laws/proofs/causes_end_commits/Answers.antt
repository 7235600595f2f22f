use Rattle.commit_answer_laws.proofs.CauseRunLemmas.{causes_end_commits}
use Rattle.commit_answer_laws.proofs.causes_end_commits.Goals as goal

pub returns : goal.returns
returns c = causes_end_commits
