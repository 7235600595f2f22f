use Rattle.node_undo_laws.proofs.LawLemmas.{seals_keep_undo, seals_have_room}
use Rattle.node_undo_laws.proofs.seals_keep_undo.Goals as goal

pub returns-clause-turns : goal.returns-clause-turns
returns-clause-turns c = seals_keep_undo

pub returns-clause-starts : goal.returns-clause-starts
returns-clause-starts c = seals_have_room
