use Rattle.run_rules.proofs.FactLemmas.{book_is}
use Rattle.run_base_laws.proofs.book_is_of_trace.Goals as goal

pub returns : goal.returns
returns c = book_is
