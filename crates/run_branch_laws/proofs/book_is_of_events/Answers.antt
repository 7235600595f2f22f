use Rattle.run_branch_laws.proofs.EventBookLemmas.{book_of_events as law}
use Rattle.run_branch_laws.proofs.book_is_of_events.Goals as goal

pub returns : goal.returns
returns c = law
