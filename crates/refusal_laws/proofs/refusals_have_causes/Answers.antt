use Rattle.refusal_laws.proofs.RefusedLemmas.{refusals_have_causes}
use Rattle.refusal_laws.proofs.refusals_have_causes.Goals as goal

pub returns : goal.returns
returns c = refusals_have_causes
