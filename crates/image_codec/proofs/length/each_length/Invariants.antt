use Rattle.std.proofs.Common.{◌≡◌, take, flat_map, length}
use Rattle.image_codec.specs.Length.{capped}
use Rattle.image_codec.proofs.length.each_length.Given as goal

-- the length of what was counted so far
abbrev pub invariant-loop-item : goal.invariant-loop-item
invariant-loop-item g l = l.total ≡ capped (length (flat_map g.F.Field.format.text (take l.item-index l.items)))
