use Rattle.answer_origin_laws.proofs.LeadLemmas.{kept_answers_lead_to_runs}
use Rattle.answer_origin_laws.proofs.kept_answers_lead_to_runs.Goals as goal

pub returns : goal.returns
returns c = kept_answers_lead_to_runs
