use Rattle.sql_eval.proofs.RowLaws.{rows_stay}
use Rattle.sql_eval.proofs.laws.rows_stay.Goals as goal

pub returns : goal.returns
returns c = rows_stay
