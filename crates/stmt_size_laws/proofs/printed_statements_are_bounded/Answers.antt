use Rattle.stmt_size_laws.proofs.StatementLengths.{printed_within, printed_thrice, printed_of_scripts}
use Rattle.stmt_size_laws.proofs.printed_statements_are_bounded.Goals as goal

pub returns : goal.returns
returns c = record { sevenths = printed_within; thrice = printed_thrice; of_scripts = printed_of_scripts }
