use Rattle.stmt_run.proofs.StoreLaws.{store_takes_one_set}
use Rattle.stmt_run.proofs.laws.store_takes_one_set.Goals as goal

pub returns : goal.returns
returns c = store_takes_one_set
