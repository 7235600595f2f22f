use Rattle.std.proofs.Common.{◌<◌, ◌-◌, ◌^◌, refl, ap, sym, subst, ◌∙◌}
use Rattle.std.specs.Prelude.{IfSome}
use Rattle.run_rules.specs.Data.{Turn}
use Rattle.run_rules.specs.Data.happenings
use Rattle.run_trace.specs.Recorded.{IsDueNext}
use Rattle.run_report.specs.Turned.{cut_as}
use Rattle.world.specs.Turns.{stands_by}
use Rattle.world.proofs.CutLemmas.{cut_agrees, cut_keeps_orders, cut_known, cut_next, cut_steps}
use Rattle.world.proofs.TurnLemmas.{delivery_counts, node_there}
use Rattle.world.proofs.world.World.turn_cut.Goals as goal

pub stop_at-requires : goal.stop_at-requires
stop_at-requires c = node_there c.args.self.now c.args.begun c.args.cut.input c.requires.during.0 c.requires.during.1 c.requires.during.2.under_way

pub report_turn-requires-clause-next : goal.report_turn-requires-clause-next
report_turn-requires-clause-next c =
    let w = c.args.self.now in
    let agrees = cut_agrees w c.args.begun c.args.cut c.requires.during.0 c.requires.during.1 c.requires.during.2 c.cut_facts-facts.result.writes c.cut_facts-facts.result.passes (cut_as c.cut-by.result) c.cut_facts-facts.ensures.writes c.cut_facts-facts.ensures.passes c.cut-by.ensures.cuts in
    subst (λ (u : Turn). IsDueNext w.trace (happenings.Turn u)) (sym c.cut_short-turn.ensures)
    (cut_next w c.args.begun c.args.cut c.requires.during.0 c.requires.during.1 c.requires.during.2 c.stands.result (c.stands.ensures ∙ ap stands_by agrees))

pub report_turn-requires-clause-few : goal.report_turn-requires-clause-few
report_turn-requires-clause-few c =
    subst (λ (u : Turn). IfSome u.took (λ t. c.args.self.now.run_report.deliveries < 2 ^ 32 - 1)) (sym c.cut_short-turn.ensures)
    (delivery_counts c.args.self.now c.args.begun c.args.cut.input c.requires.during.0 c.requires.during.1 c.requires.during.2.under_way)

pub returns-clause-steps : goal.returns-clause-steps
returns-clause-steps c =
    let w = c.args.self.now in
    let during = c.requires.during.2 in
    let agrees = cut_agrees w c.args.begun c.args.cut c.requires.during.0 c.requires.during.1 during c.cut_facts-facts.result.writes c.cut_facts-facts.result.passes (cut_as c.cut-by.result) c.cut_facts-facts.ensures.writes c.cut_facts-facts.ensures.passes c.cut-by.ensures.cuts in
    let stands = c.stands.ensures ∙ ap stands_by agrees in
    cut_steps w c.args.begun c.args.cut c.requires.during.0 c.requires.during.1 during c.stands.result stands c.cut_short-turn.result c.cut_short-turn.ensures c.cut_facts-facts.result
    (cut_known w c.args.begun c.args.cut c.requires.during.0 c.requires.during.1 during c.stands.result stands c.cut_facts-facts.result c.cut_facts-facts.ensures.caller c.cut_facts-facts.ensures.writes c.cut_facts-facts.ensures.passes)
    _ c.report_turn.new.self
    (record { trace = refl; running = refl; losses = refl; boots_are = refl; shown = refl; run_report = refl; net = c.take_message.ensures; to_stop = refl; stops = c.stop_at.ensures })
    c.report_turn.ensures.same c.report_turn.result c.report_turn.ensures.told

pub returns-clause-orders : goal.returns-clause-orders
returns-clause-orders c =
    let w = c.args.self.now in
    let during = c.requires.during.2 in
    let agrees = cut_agrees w c.args.begun c.args.cut c.requires.during.0 c.requires.during.1 during c.cut_facts-facts.result.writes c.cut_facts-facts.result.passes (cut_as c.cut-by.result) c.cut_facts-facts.ensures.writes c.cut_facts-facts.ensures.passes c.cut-by.ensures.cuts in
    let stands = c.stands.ensures ∙ ap stands_by agrees in
    cut_keeps_orders w c.args.begun c.args.cut c.requires.during.0 c.requires.during.1 during c.stands.result stands c.cut_short-turn.result c.cut_short-turn.ensures c.cut_facts-facts.result
    (cut_known w c.args.begun c.args.cut c.requires.during.0 c.requires.during.1 during c.stands.result stands c.cut_facts-facts.result c.cut_facts-facts.ensures.caller c.cut_facts-facts.ensures.writes c.cut_facts-facts.ensures.passes)
    _ c.report_turn.new.self
    (record { trace = refl; running = refl; losses = refl; boots_are = refl; shown = refl; run_report = refl; net = c.take_message.ensures; to_stop = refl; stops = c.stop_at.ensures })
    c.report_turn.ensures.same c.report_turn.result c.report_turn.ensures.told

pub returns-clause-left : goal.returns-clause-left
returns-clause-left c = λ still. c.report_turn.ensures.left (record { lines = still.lines; shown = still.shown })
