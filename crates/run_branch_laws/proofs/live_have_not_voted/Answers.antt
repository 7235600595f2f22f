use Rattle.run_branch_laws.proofs.VoteLemmas.{live_have_not_voted}
use Rattle.run_branch_laws.proofs.live_have_not_voted.Goals as goal

pub returns : goal.returns
returns c = live_have_not_voted
