use Rattle.commit_leave_laws.proofs.OpenRunLemmas.{opens_are_sent_once}
use Rattle.commit_leave_laws.proofs.opens_are_sent_once.Goals as goal

pub returns : goal.returns
returns c = opens_are_sent_once
