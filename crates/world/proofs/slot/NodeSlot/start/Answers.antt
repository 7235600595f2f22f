use Rattle.std.proofs.Common.{subst, sym}
use Rattle.world.specs.declared.slot.NodeSlot.{NodeSlot}
use Rattle.world.specs.Started.{TriedFrom}
use Rattle.world.proofs.slot.NodeSlot.start.Goals as goal

pub returns : goal.returns
returns c =
    record { tried = subst (TriedFrom c.args.place c.args.self.now) (sym c.replace.ensures.after) (subst (λ (s : NodeSlot). TriedFrom c.args.place s c.in_ok-tried.tried) c.replace-resting.ensures.value c.in_ok-tried.ensures.tried) }
