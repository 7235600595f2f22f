use Rattle.run_ready_laws.proofs.RunLawfulLemmas.{the_run_is_lawful}
use Rattle.run_ready_laws.proofs.the_run_is_lawful.Goals as goal

pub returns : goal.returns
returns c = the_run_is_lawful
