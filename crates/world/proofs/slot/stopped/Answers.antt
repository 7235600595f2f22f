use Rattle.std.proofs.Common.{sym, subst}
use Rattle.node_disk.specs.Starts.{CanBeStarted}
use Rattle.world.specs.declared.slot.NodeSlot.{NodeSlot}
use Rattle.world.specs.NodeSlot.{site_disk, bytes_of, images_of}
use Rattle.world.proofs.slot.stopped.Goals as goal

pub returns-in-Up-clause-starts : goal.returns-in-Up-clause-starts
returns-in-Up-clause-starts c =
    (λ undo can. c.rested.ensures.starts undo
    (subst (λ d. CanBeStarted undo bytes_of images_of d) (sym c.into_disk.ensures) (subst (λ (s : NodeSlot). CanBeStarted undo bytes_of images_of (site_disk s)) c.in-Up.is can)))

pub returns-in-Down-clause-starts : goal.returns-in-Down-clause-starts
returns-in-Down-clause-starts c =
    (λ undo can. c.rested-in-Down.ensures.starts undo (subst (λ (s : NodeSlot). CanBeStarted undo bytes_of images_of (site_disk s)) c.in-Down.is can))
