use Rattle.std.proofs.Common.{ap, ◌∙◌, ◌<◌, length, arith}
use Rattle.std.proofs.Math.ListN.{set}
use Rattle.std.proofs.lemmas.List.{get_or_default}
use Rattle.std.proofs.lemmas.List.Edits.{map_over_more}
use Rattle.chart_marks.specs.Marks.{settled}
use Rattle.chart_marks.proofs.doubts.settle_all.Goals as goal

pub loop-doubt-preserved : goal.loop-doubt-preserved
loop-doubt-preserved c =
    let items = c.loop-doubt.doubt-items in
    let i = c.loop-doubt.doubt-index in
    let long = c.loop-doubt.auto.doubt-items in
    let more = c.loop-doubt-test.true in
    let inside : i < length items = omega arith in
    ap (set items i) c.settle.ensures
    ∙ map_over_more (settled c.args.me.now c.args.row) c.deref_mut-doubt-items.result.now items i _ more c.loop-doubt.invariant (get_or_default items i _ _ inside)
