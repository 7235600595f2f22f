use Rattle.sql_eval.proofs.KeyLaws.{written_at_key}
use Rattle.sql_eval.proofs.laws.written_at_key.Goals as goal

pub returns : goal.returns
returns c = written_at_key
