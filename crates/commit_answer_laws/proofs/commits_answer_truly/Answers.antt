use Rattle.commit_answer_laws.proofs.CommitLineLemmas.{commits_answer_truly}
use Rattle.commit_answer_laws.proofs.commits_answer_truly.Goals as goal

pub returns : goal.returns
returns c = commits_answer_truly
