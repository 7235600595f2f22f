use Rattle.std.proofs.Common.{◌≡◌, take}
use Rattle.dtx_values.proofs.duplicate.ListingDuplicate.copy.Given as goal

-- the copies of the items so far
abbrev pub invariant-loop-item : goal.invariant-loop-item
invariant-loop-item g l = l.copies.items ≡ take l.item-index l.items
