use Rattle.sql_parse.proofs.WholeLaws.{created_tables_are_whole}
use Rattle.sql_parse.proofs.laws.created_tables_are_whole.Goals as goal

pub returns : goal.returns
returns c = created_tables_are_whole
