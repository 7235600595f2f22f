use Rattle.run_ready_laws.proofs.CountRunLemmas.{counts_are_of_trees, counts_are_few}
use Rattle.run_ready_laws.proofs.counts_are_few.Goals as goal

pub returns-clause-trees : goal.returns-clause-trees
returns-clause-trees c = counts_are_of_trees

pub returns-clause-few : goal.returns-clause-few
returns-clause-few c = counts_are_few
