use Rattle.run_branch_laws.proofs.FreezeRunLemmas.{asked_have_answered}
use Rattle.run_branch_laws.proofs.asked_have_answered.Goals as goal

pub returns : goal.returns
returns c = asked_have_answered
