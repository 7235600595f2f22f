use Rattle.sql_eval.proofs.MadeLemmas.{count_is_length}
use Rattle.sql_eval.proofs.laws.count_is_length.Goals as goal

pub returns : goal.returns
returns c = count_is_length
