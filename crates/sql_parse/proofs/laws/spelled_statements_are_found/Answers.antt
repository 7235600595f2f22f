use Rattle.sql_parse.proofs.ParseLaws.{found_is_spelled, spelled_is_found}
use Rattle.sql_parse.proofs.laws.spelled_statements_are_found.Goals as goal

pub returns-clause-found : goal.returns-clause-found
returns-clause-found c = spelled_is_found

pub returns-clause-spelled : goal.returns-clause-spelled
returns-clause-spelled c = found_is_spelled
