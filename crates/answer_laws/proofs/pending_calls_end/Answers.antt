use Rattle.answer_laws.proofs.PendingCallLemmas.{pending_calls_end}
use Rattle.answer_laws.proofs.pending_calls_end.Goals as goal

pub returns : goal.returns
returns c = pending_calls_end
