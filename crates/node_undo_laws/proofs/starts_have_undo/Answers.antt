use Rattle.node_undo_laws.proofs.StartLemmas.{starts_have_undo}
use Rattle.node_undo_laws.proofs.starts_have_undo.Goals as goal

pub returns : goal.returns
returns c = starts_have_undo
