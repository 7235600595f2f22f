use Rattle.std.proofs.Common.{ap, ◌∙◌, sym}
use Rattle.std.proofs.Math.ListN.{set}
use Rattle.std.proofs.lemmas.List.Edits.{map_over_more}
use Rattle.run_rules.specs.Cuts.{reach}
use Rattle.node_points.specs.Passing.{passes_as}
use Rattle.run_report_parts.specs.Points.{numbers_on}
use Rattle.run_report_parts.proofs.point.reach_all.Goals as goal

pub loop-point-preserved : goal.loop-point-preserved
loop-point-preserved c =
    let f = reach (passes_as c.args.passes.now).root (numbers_on c.args.side (passes_as c.args.passes.now)) in
    ap (set c.loop-point.point-items c.loop-point.point-index) (c.reach.ensures ∙ ap f (sym c.point-item.is))
    ∙ map_over_more f c.deref_mut-point-items.result.now c.loop-point.point-items c.loop-point.point-index c.point-item.result c.loop-point-test.true c.loop-point.invariant c.point-item.is
