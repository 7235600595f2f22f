use Rattle.tree_cover_laws.proofs.WellRunLemmas.{calls_follow_answers}
use Rattle.tree_cover_laws.proofs.calls_follow_answers.Goals as goal

pub returns : goal.returns
returns c = calls_follow_answers
