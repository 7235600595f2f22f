use Rattle.commit_laws.proofs.TriedCommitLemmas.{the_tried_commit}
use Rattle.commit_laws.proofs.the_tried_commit.Goals as goal

pub returns : goal.returns
returns c = the_tried_commit
