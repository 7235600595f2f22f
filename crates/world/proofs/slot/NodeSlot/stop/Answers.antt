use Rattle.std.proofs.Common.{ℕ, subst, sym}
use Rattle.node_disk.specs.Starts.{CanBeStarted}
use Rattle.world.specs.declared.slot.NodeSlot.{NodeSlot}
use Rattle.world.specs.NodeSlot.{site_disk, bytes_of, images_of}
use Rattle.world.proofs.slot.NodeSlot.stop.Goals as goal

-- a start can be made from the disk of a slot
abbrev CanStartFrom : ℕ → NodeSlot → Type 0
CanStartFrom undo s = CanBeStarted undo bytes_of images_of (site_disk s)

pub returns-clause-starts : goal.returns-clause-starts
returns-clause-starts c =
    (λ undo can. subst (CanStartFrom undo) (sym c.replace.ensures.after) (c.stopped.ensures.starts undo (subst (CanStartFrom undo) (sym c.replace-running.ensures.value) can)))
