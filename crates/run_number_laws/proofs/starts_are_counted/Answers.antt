use Rattle.run_number_laws.proofs.NumberRunLemmas.{starts_are_counted}
use Rattle.run_number_laws.proofs.starts_are_counted.Goals as goal

pub returns : goal.returns
returns c = starts_are_counted
