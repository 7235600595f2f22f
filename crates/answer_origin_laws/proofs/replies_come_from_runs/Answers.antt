use Rattle.answer_origin_laws.proofs.ReplyRunLemmas.{replies_come_from_runs}
use Rattle.answer_origin_laws.proofs.replies_come_from_runs.Goals as goal

pub returns : goal.returns
returns c = replies_come_from_runs
