use Rattle.stmt_run.proofs.StoreLaws.{store_refuses_alike}
use Rattle.stmt_run.proofs.laws.store_refuses_alike.Goals as goal

pub returns : goal.returns
returns c = store_refuses_alike
