use Rattle.std.proofs.Common.{◌≡◌, ◌++◌, map, take, drop}
use Rattle.world_parts.specs.Shown.{disk_reported}
use Rattle.world_parts.proofs.ShownLemmas.{IsLeftOf}
use Rattle.world_parts.proofs.lines.with_disks.Given as goal

-- the lines so far have their disks, and what was shown for the others is left
abbrev pub invariant-loop-line : goal.invariant-loop-line
invariant-loop-line l = (l.line-items ≡ map (disk_reported l.initial.shown) (take l.line-index l.initial.line-items) ++ drop l.line-index l.initial.line-items)
    × IsLeftOf (take l.line-index l.initial.line-items) l.initial.shown l.shown
