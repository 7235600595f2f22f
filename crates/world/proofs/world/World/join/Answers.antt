use Rattle.std.proofs.Common.{refl, ap, ◌∙◌}
use Rattle.world.proofs.NetworkLemmas.{join_steps}
use Rattle.run_rules.specs.RunReport.{Past}
use Rattle.run_trace.specs.Recorded.{past_of}
use Rattle.world.proofs.FallLemmas.{orders_stay}
use Rattle.world.proofs.NetworkLemmas.{next_join}
use Rattle.world.proofs.world.World.join.Goals as goal

pub returns-clause-steps : goal.returns-clause-steps
returns-clause-steps c =
    join_steps c.args.self.now _ c.requires.linked (record { running = refl; to_stop = refl; boots = refl; slots = refl; shown = refl }) c.act.ensures c.args.a c.args.b c.requires.due (record { is = c.in_ok-push.ensures.ok; past = c.in_ok-push.ensures.past; few = c.in_ok-push.ensures.few }) c.join.ensures refl

pub returns-clause-orders : goal.returns-clause-orders
returns-clause-orders c =
    let w = c.args.self.now in
    orders_stay w (record w { trace = c.push.new.self }) refl (ap (λ (p : Past). p.run_report.orders) (c.in_ok-push.ensures.past ∙ next_join w.trace.places w.trace.asked (past_of w.trace) c.args.a c.args.b)) c.requires.orders
