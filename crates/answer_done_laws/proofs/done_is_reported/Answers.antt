use Rattle.answer_done_laws.proofs.ReportedDoneLemmas.{done_is_reported}
use Rattle.answer_done_laws.proofs.done_is_reported.Goals as goal

pub returns : goal.returns
returns c = done_is_reported
