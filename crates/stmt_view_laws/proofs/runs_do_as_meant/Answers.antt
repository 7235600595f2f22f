use Rattle.stmt_view_laws.proofs.RunLemmas.{runs_do_as_meant, runs_mean_alike}
use Rattle.stmt_view_laws.proofs.runs_do_as_meant.Goals as goal

pub returns-clause-meant : goal.returns-clause-meant
returns-clause-meant c = runs_do_as_meant

pub returns-clause-alike : goal.returns-clause-alike
returns-clause-alike c = runs_mean_alike
