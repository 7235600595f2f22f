use Rattle.node_undo_laws.proofs.LawLemmas.{turns_keep_undo}
use Rattle.node_undo_laws.proofs.StartLemmas.{no_undo_at_first}
use Rattle.node_undo_laws.proofs.turns_keep_undo.Goals as goal

pub returns-clause-made : goal.returns-clause-made
returns-clause-made c = no_undo_at_first

pub returns-clause-turns : goal.returns-clause-turns
returns-clause-turns c = turns_keep_undo
