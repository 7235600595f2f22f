use Rattle.tree_cover_laws.proofs.HeldLemmas.{answers_tell_weights}
use Rattle.tree_cover_laws.proofs.answers_tell_weights.Goals as goal

pub returns : goal.returns
returns c = answers_tell_weights
