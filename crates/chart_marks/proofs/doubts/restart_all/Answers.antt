use Rattle.std.proofs.Common.{ap, ◌∙◌, ◌<◌, length, arith}
use Rattle.std.proofs.Math.ListN.{set}
use Rattle.std.proofs.lemmas.List.{get_or_default}
use Rattle.std.proofs.lemmas.List.Edits.{map_over_more}
use Rattle.chart_marks.specs.Marks.{restarted}
use Rattle.chart_marks.proofs.doubts.restart_all.Goals as goal

pub loop-outage-preserved : goal.loop-outage-preserved
loop-outage-preserved c =
    let items = c.loop-outage.outage-items in
    let i = c.loop-outage.outage-index in
    let long = c.loop-outage.auto.outage-items in
    let more = c.loop-outage-test.true in
    let inside : i < length items = omega arith in
    ap (set items i) c.restart.ensures
    ∙ map_over_more (restarted c.args.node c.args.row) c.deref_mut-outage-items.result.now items i _ more c.loop-outage.invariant (get_or_default items i _ _ inside)
