use Rattle.std.proofs.Common.{false, List, map, refl, ap, sym, subst, ◌∙◌}
use Rattle.std.specs.List.{AllByRecursion}
use Rattle.net_bag.specs.Net.{lost_at_once, sent_on}
use Rattle.node_rules.specs.Data.{Msg}
use Rattle.node_disk.specs.declared.effects.Mailed.{Mailed}
use Rattle.run_rules.specs.Data.happenings
use Rattle.run_rules.specs.Facts.{taken}
use Rattle.run_trace.specs.Recorded.{RunSoFar, IsDueNext, past_of}
use Rattle.node_disk.specs.Effects.{IsMailed}
use Rattle.world_parts.specs.Shown.{ShowDisks}
use Rattle.world.specs.declared.world.World.{World}
use Rattle.world.proofs.TurnLemmas.{whole_next, without_bytes}
use Rattle.world.proofs.WholeLemmas.{whole_keeps_orders, whole_known, whole_steps}
use Rattle.world.proofs.world.World.turn_whole.Goals as goal

pub end_and_send-requires : goal.end_and_send-requires
end_and_send-requires c = subst (λ (xs : List Mailed). AllByRecursion IsMailed xs) (sym c.into_vec.ensures) c.requires.during.1.mailed

pub report_turn-requires-clause-next : goal.report_turn-requires-clause-next
report_turn-requires-clause-next c =
    let during = c.requires.during.1 in
    let sent = c.in-Ok.ensures.sent ∙ (ap (map (λ (x : Mailed). x.msg)) (c.into_vec.ensures ∙ during.tells.sent) ∙ without_bytes _) in
    subst (λ (x : RunSoFar). IsDueNext x (happenings.Turn (record { node = c.args.begun.node; input = c.args.effects.input; took = c.args.begun.took; wrote = c.args.effects.wrote; sent = c.in-Ok.sent; cut = false })))
    (sym (ap (λ (x : World). x.trace) c.end_and_send.ensures.same))
    (whole_next c.args.self.now c.args.begun c.args.effects c.requires.during.0 during c.in-Ok.sent sent)

pub returns-in-Ok-clause-steps : goal.returns-in-Ok-clause-steps
returns-in-Ok-clause-steps c =
    let w = c.args.self.now in
    let begun = c.args.begun in
    let e = c.args.effects in
    let k = c.requires.during.0 in
    let during = c.requires.during.1 in
    let same = c.end_and_send.ensures.same in
    let msgs = c.in-Ok.sent in
    let are = c.in-Ok.ensures.sent in
    let mails = ap (map (λ (x : Mailed). x.msg)) (c.into_vec.ensures ∙ during.tells.sent) ∙ without_bytes _ in
    whole_steps w begun e k during msgs (are ∙ mails) _ (whole_known w begun e k during msgs _ refl c.is_some.ensures refl c.in-Ok.ensures.ended) c.end_and_send.new.self c.report_turn.new.self
    (record {
      trace = ap (λ (x : World). x.trace) same;
      running = ap (λ (x : World). x.running) same;
      to_stop = ap (λ (x : World). x.to_stop) same;
      boots_are = ap (λ (x : World). x.boots.items) same;
      shown = ap (λ (x : World). x.shown) same;
      run_report = ap (λ (x : World). x.run_report) same;
      slots = ap (λ (x : World). x.slots.items) same;
      net = c.in-Ok.ensures.net ∙ ap (λ (ms : List Msg). sent_on (taken w.net begun.took) ms) (sym are);
      losses = c.in-Ok.ensures.losses ∙ ap (λ (ms : List Msg). lost_at_once (taken w.net begun.took) ms) (sym are);
    })
    c.report_turn.ensures.same c.report_turn.result c.report_turn.ensures.told

pub returns-in-Ok-clause-orders : goal.returns-in-Ok-clause-orders
returns-in-Ok-clause-orders c =
    let w = c.args.self.now in
    let begun = c.args.begun in
    let e = c.args.effects in
    let k = c.requires.during.0 in
    let during = c.requires.during.1 in
    let same = c.end_and_send.ensures.same in
    let msgs = c.in-Ok.sent in
    let are = c.in-Ok.ensures.sent in
    let mails = ap (map (λ (x : Mailed). x.msg)) (c.into_vec.ensures ∙ during.tells.sent) ∙ without_bytes _ in
    whole_keeps_orders w begun e k during msgs (are ∙ mails) _ (whole_known w begun e k during msgs _ refl c.is_some.ensures refl c.in-Ok.ensures.ended) c.end_and_send.new.self c.report_turn.new.self
    (record {
      trace = ap (λ (x : World). x.trace) same;
      running = ap (λ (x : World). x.running) same;
      to_stop = ap (λ (x : World). x.to_stop) same;
      boots_are = ap (λ (x : World). x.boots.items) same;
      shown = ap (λ (x : World). x.shown) same;
      run_report = ap (λ (x : World). x.run_report) same;
      slots = ap (λ (x : World). x.slots.items) same;
      net = c.in-Ok.ensures.net ∙ ap (λ (ms : List Msg). sent_on (taken w.net begun.took) ms) (sym are);
      losses = c.in-Ok.ensures.losses ∙ ap (λ (ms : List Msg). lost_at_once (taken w.net begun.took) ms) (sym are);
    })
    c.report_turn.ensures.same c.report_turn.result c.report_turn.ensures.told

pub returns-in-Err-clause-left : goal.returns-in-Err-clause-left
returns-in-Err-clause-left c = λ still.
    let same = c.end_and_send.ensures.same in
    record {
      lines = ap (λ (x : World). x.run_report.lines) same ∙ (still.lines ∙ ap (λ (x : World). (past_of x.trace).run_report.lines) (sym same));
      shown = subst (λ (x : World). ShowDisks x.trace x.shown) (sym same) still.shown;
    }
