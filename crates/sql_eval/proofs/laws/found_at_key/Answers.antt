use Rattle.sql_eval.proofs.KeyLaws.{found_at_key}
use Rattle.sql_eval.proofs.laws.found_at_key.Goals as goal

pub returns : goal.returns
returns c = found_at_key
