use Rattle.answer_done_laws.proofs.DoneLemmas.{done_is_written}
use Rattle.answer_done_laws.proofs.done_is_written.Goals as goal

pub returns : goal.returns
returns c = done_is_written
