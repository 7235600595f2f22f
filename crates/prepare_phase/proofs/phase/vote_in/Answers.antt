use Rattle.std.proofs.Common.{ap, ◌∙◌, sym}
use Rattle.std.proofs.Math.ListN.{set}
use Rattle.std.proofs.lemmas.List.Edits.{map_over_more}
use Rattle.prepare_phase.specs.Acts.{has_voted}
use Rattle.prepare_phase.proofs.phase.vote_in.Goals as goal

pub loop-edge-preserved : goal.loop-edge-preserved
loop-edge-preserved c =
    ap (set c.loop-edge.edge-items c.loop-edge.edge-index) (c.vote_if_first.ensures ∙ ap (has_voted c.args.from.now c.args.vote) (sym c.edge-item.is))
    ∙ map_over_more (has_voted c.args.from.now c.args.vote) c.deref_mut-edge-items.result.now c.loop-edge.edge-items c.loop-edge.edge-index c.edge-item.result c.loop-edge-test.true c.loop-edge.invariant c.edge-item.is
