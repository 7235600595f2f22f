use Rattle.refusal_laws.proofs.AcceptedLemmas.{accepted_runs_meet_nobody}
use Rattle.refusal_laws.proofs.accepted_runs_meet_nobody.Goals as goal

pub returns : goal.returns
returns c = accepted_runs_meet_nobody
