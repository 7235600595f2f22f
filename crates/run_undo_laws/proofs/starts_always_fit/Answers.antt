use Rattle.run_undo_laws.proofs.UndoRunLemmas.{disks_need_no_more, starts_always_fit}
use Rattle.run_undo_laws.proofs.starts_always_fit.Goals as goal

pub returns-clause-disks : goal.returns-clause-disks
returns-clause-disks c = disks_need_no_more

pub returns-clause-starts : goal.returns-clause-starts
returns-clause-starts c = starts_always_fit
