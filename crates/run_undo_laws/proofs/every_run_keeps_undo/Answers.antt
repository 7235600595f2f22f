use Rattle.run_undo_laws.proofs.UndoRunLemmas.{every_run_keeps_undo}
use Rattle.run_undo_laws.proofs.every_run_keeps_undo.Goals as goal

pub returns : goal.returns
returns c = every_run_keeps_undo
