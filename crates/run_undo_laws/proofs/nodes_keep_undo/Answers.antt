use Rattle.run_undo_laws.proofs.UndoRunLemmas.{nodes_keep_undo, disks_fit_doubts}
use Rattle.run_undo_laws.proofs.nodes_keep_undo.Goals as goal

pub returns-clause-nodes : goal.returns-clause-nodes
returns-clause-nodes c = nodes_keep_undo

pub returns-clause-disks : goal.returns-clause-disks
returns-clause-disks c = disks_fit_doubts
