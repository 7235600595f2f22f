use Rattle.back_laws.proofs.ReturnLemmas.{branches_return}
use Rattle.back_laws.proofs.branches_return.Goals as goal

pub returns : goal.returns
returns c = branches_return
