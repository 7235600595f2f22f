use Rattle.link_session.proofs.OnceLemmas.{are_answered}
use Rattle.link_session.proofs.repeats_are_answered.Goals as goal

pub returns : goal.returns
returns c = are_answered
