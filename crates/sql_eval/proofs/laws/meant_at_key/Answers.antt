use Rattle.sql_eval.proofs.KeyLaws.{meant_at_key}
use Rattle.sql_eval.proofs.laws.meant_at_key.Goals as goal

pub returns : goal.returns
returns c = meant_at_key
