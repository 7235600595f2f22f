use Rattle.sql_print.proofs.RoundTrip.{printed_again}
use Rattle.sql_print.proofs.printing.print_stmt.Goals as goal

pub returns-clause-again : goal.returns-clause-again
returns-clause-again c = λ text h. rw (c.of.ensures, c.in_ok-put_statement.ensures, c.new-out.ensures.items) (printed_again text c.args.statement.now h)
