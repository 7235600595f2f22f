use Rattle.std.proofs.Common.{◌≡◌, length, take}
use Rattle.world.specs.Slots.{AreMade}
use Rattle.world.proofs.slots.made_all.Given as goal

-- the nodes of the places so far are made
abbrev pub invariant-loop-place : goal.invariant-loop-place
invariant-loop-place l = (length l.slots.items ≡ l.place-index) × AreMade (take l.place-index l.places) l.slots.items
