use Rattle.sql_print.proofs.RoundTrip.{printed_once}
use Rattle.sql_print.proofs.laws.printed_statements_differ.Goals as goal

pub returns : goal.returns
returns c = printed_once
