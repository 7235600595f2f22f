use Rattle.commit_obey_laws.proofs.ObeyBookLemmas.{every_decision_is_obeyed}
use Rattle.commit_obey_laws.proofs.every_decision_is_obeyed.Goals as goal

pub returns : goal.returns
returns c = every_decision_is_obeyed
