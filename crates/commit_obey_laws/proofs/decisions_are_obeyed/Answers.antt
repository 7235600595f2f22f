use Rattle.commit_obey_laws.proofs.ObeyLemmas.{decisions_are_obeyed}
use Rattle.commit_obey_laws.proofs.decisions_are_obeyed.Goals as goal

pub returns : goal.returns
returns c = decisions_are_obeyed
