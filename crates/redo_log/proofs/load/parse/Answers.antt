-- Behind whole cells, bytes that are no log leave no log.
use Rattle.redo_log.proofs.Walk.{none_behind}
use Rattle.redo_log.proofs.load.parse.Goals as goal

pub returns-in-CutOff-clause-not_a_log : goal.returns-in-CutOff-clause-not_a_log
returns-in-CutOff-clause-not_a_log c = λ is. none_behind c.args.bytes.now c.cells.found c.cells.rest.now c.cells.invariant.so_far c.cells.invariant.fit c.in-CutOff.ensures
