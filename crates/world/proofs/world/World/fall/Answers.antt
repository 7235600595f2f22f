use Rattle.world.specs.Halts.{HasHalted}
use Rattle.world.proofs.FallLemmas.{fall_leaves}
use Rattle.world.proofs.StopLemmas.{falls_there}
use Rattle.world.proofs.TryLemmas.{on_ok}
use Rattle.world.proofs.world.World.fall.Goals as goal

pub returns-clause-orders : goal.returns-clause-orders
returns-clause-orders c =
    let w = c.args.self.now in
    on_ok c.halt.result (HasHalted c.args.node w c.halt.new.self) _ c.halt.ensures.halted (λ halted.
    fall_leaves w c.halt.new.self c.args.node c.requires.linked c.requires.orders (falls_there w.trace c.args.node c.what_is_due_can_happen.ensures.nodes c.requires.linked.held.script c.requires.due) halted c.requires.due)
