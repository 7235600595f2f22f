use Rattle.world.specs.Halts.{HasHalted}
use Rattle.world.proofs.FallLemmas.{booted_next, fallen_orders}
use Rattle.world.proofs.TryLemmas.{on_ok}
use Rattle.world.proofs.world.World.boot_and_fall.Goals as goal

pub halt-requires-clause-next : goal.halt-requires-clause-next
halt-requires-clause-next c = booted_next c.args.self.now c.boot.new.self c.args.node c.requires.begun c.requires.due c.in_ok-boot.ensures.booted c.requires.struck

pub returns-clause-orders : goal.returns-clause-orders
returns-clause-orders c =
    on_ok c.halt.result (HasHalted c.args.node c.boot.new.self c.halt.new.self) _ c.halt.ensures.halted (λ halted.
    fallen_orders c.args.self.now c.boot.new.self c.args.node c.requires.begun c.requires.due c.in_ok-boot.ensures.booted c.halt.new.self halted)
