use Rattle.run_branch_laws.proofs.RunLemmas.{runs_are_played}
use Rattle.run_branch_laws.proofs.runs_are_played.Goals as goal

pub returns : goal.returns
returns c = runs_are_played
