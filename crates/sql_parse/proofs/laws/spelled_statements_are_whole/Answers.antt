use Rattle.sql_parse.proofs.WholeLaws.{statements_are_whole}
use Rattle.sql_parse.proofs.laws.spelled_statements_are_whole.Goals as goal

pub returns : goal.returns
returns c = statements_are_whole
