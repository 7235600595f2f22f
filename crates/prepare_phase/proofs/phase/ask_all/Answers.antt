use Rattle.std.proofs.Common.{ap, ◌∙◌, sym}
use Rattle.std.proofs.Math.ListN.{set}
use Rattle.std.proofs.lemmas.List.Edits.{map_over_more}
use Rattle.prepare_phase.specs.Acts.{with_prepare_sent}
use Rattle.prepare_phase.proofs.phase.ask_all.Goals as goal

pub loop-edge-preserved : goal.loop-edge-preserved
loop-edge-preserved c =
    ap (set c.loop-edge.edge-items c.loop-edge.edge-index) (c.ask.ensures ∙ ap with_prepare_sent (sym c.edge-item.is))
    ∙ map_over_more with_prepare_sent c.deref_mut-edge-items.result.now c.loop-edge.edge-items c.loop-edge.edge-index c.edge-item.result c.loop-edge-test.true c.loop-edge.invariant c.edge-item.is
