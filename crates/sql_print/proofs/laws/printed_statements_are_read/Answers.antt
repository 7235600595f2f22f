use Rattle.sql_print.proofs.RoundTrip.{printed_again, found_again, printed_is_found}
use Rattle.sql_print.proofs.laws.printed_statements_are_read.Goals as goal

pub returns-clause-spelled : goal.returns-clause-spelled
returns-clause-spelled c = printed_again

pub returns-clause-again : goal.returns-clause-again
returns-clause-again c = found_again

pub returns-clause-found : goal.returns-clause-found
returns-clause-found c = printed_is_found
