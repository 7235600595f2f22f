use Rattle.undo_pool.proofs.Packed.{counted}
use Rattle.undo_pool.proofs.Owners.{add_up}
use Rattle.undo_pool.proofs.laws.extents_add_up.Goals as goal

pub returns-clause-rounded : goal.returns-clause-rounded
returns-clause-rounded c owner = counted c.args.pool.now.used c.are_packed.ensures owner

pub returns-clause-sum : goal.returns-clause-sum
returns-clause-sum c = add_up c.args.pool.now c.are_packed.ensures
