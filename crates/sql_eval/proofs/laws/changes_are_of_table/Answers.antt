use Rattle.sql_eval.proofs.RowLaws.{changes_are_of_table}
use Rattle.sql_eval.proofs.laws.changes_are_of_table.Goals as goal

pub returns : goal.returns
returns c = changes_are_of_table
