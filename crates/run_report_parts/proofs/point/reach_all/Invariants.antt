-- The points so far are reached.
use Rattle.std.proofs.Common.{◌≡◌, ◌++◌, map, take, drop}
use Rattle.run_rules.specs.Cuts.{reach}
use Rattle.node_points.specs.Passing.{passes_as}
use Rattle.run_report_parts.specs.Points.{numbers_on}
use Rattle.run_report_parts.proofs.point.reach_all.Given as goal

abbrev pub invariant-loop-point : goal.invariant-loop-point
invariant-loop-point l =
    l.point-items ≡ map (reach (passes_as l.passes).root (numbers_on l.side (passes_as l.passes))) (take l.point-index l.initial.point-items) ++ drop l.point-index l.initial.point-items
