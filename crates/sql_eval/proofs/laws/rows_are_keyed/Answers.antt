use Rattle.sql_eval.proofs.RowLaws.{rows_are_keyed}
use Rattle.sql_eval.proofs.laws.rows_are_keyed.Goals as goal

pub returns : goal.returns
returns c = rows_are_keyed
