use Rattle.std.proofs.Common.{ap, ◌∙◌, sym}
use Rattle.std.proofs.Math.ListN.{set}
use Rattle.std.proofs.lemmas.List.Edits.{map_over_more}
use Rattle.run_rules.specs.Calls.{change_call}
use Rattle.run_report_parts.proofs.calls.change_calls.Goals as goal

pub loop-call-preserved : goal.loop-call-preserved
loop-call-preserved c =
    ap (set c.loop-call.call-items c.loop-call.call-index) (c.in_ok-change.ensures ∙ ap (change_call c.args.new.now) (sym c.call-item.is))
    ∙ map_over_more (change_call c.args.new.now) c.deref_mut-call-items.result.now c.loop-call.call-items c.loop-call.call-index c.call-item.result c.loop-call-test.true c.loop-call.invariant c.call-item.is
