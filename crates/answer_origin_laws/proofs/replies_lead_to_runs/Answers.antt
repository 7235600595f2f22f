use Rattle.answer_origin_laws.proofs.LeadLemmas.{replies_lead_to_runs}
use Rattle.answer_origin_laws.proofs.replies_lead_to_runs.Goals as goal

pub returns : goal.returns
returns c = replies_lead_to_runs
