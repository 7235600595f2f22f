use Rattle.stmt_size_laws.proofs.PrintedExamples.{deleted, added_up}
use Rattle.stmt_size_laws.proofs.two_statements_are_printed.Goals as goal

pub returns : goal.returns
returns c = record { longer = deleted; doubled = added_up }
