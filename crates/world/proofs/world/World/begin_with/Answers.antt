use Rattle.std.proofs.Common.{List, length, refl, ap, sym, subst, ◌∙◌}
use Rattle.run_rules.specs.Data.happenings
use Rattle.run_rules.specs.Data.{Command}
use Rattle.run_rules.specs.Facts.{ordered}
use Rattle.run_trace.specs.Recorded.{RunSoFar, past_of}
use Rattle.run_rules.specs.Commands.{begins, orders_after}
use Rattle.run_rules.specs.Past.{next}
use Rattle.run_rules.specs.RunReport.{Past}
use Rattle.script_read.specs.Sound.{IsInRange}
use Rattle.world.specs.declared.slot.NodeSlot.{NodeSlot}
use Rattle.world.specs.Orders.{OrderedBy}
use Rattle.world.proofs.ArmLemmas.{begun_orders, range_at}
use Rattle.world.specs.declared.world.World.{World}
use Rattle.world_parts.specs.Shown.{Shown, shown_at}
use Rattle.world.specs.Slots.{MayShow, disk_at}
use Rattle.world.proofs.BeginLemmas.{begin_moves, next_begun, orders_from}
use Rattle.world.proofs.LeftLemmas.{begin_left, linked_still, may_show_but, on_err, stays_still, still_left}
use Rattle.world.proofs.StopLemmas.{pushed_in}
use Rattle.world.proofs.world.World.begin_with.Goals as goal

pub returns-clause-steps : goal.returns-clause-steps
returns-clause-steps c =
    let w = c.args.self.now in
    let n = c.args.number in
    let told = c.report_begin.ensures.same in
    let showed = c.show_disk.ensures.same in
    let order = c.order_disk.ensures.same in
    let is = c.requires.command in
    begin_moves w _ n c.requires.linked c.requires.due
    (pushed_in w.trace c.order_disk.new.self.trace c.push.new.self (happenings.Begun n)
    (ap (λ (x : World). x.trace) order ∙ (ap (λ (x : World). x.trace) showed ∙ ap (λ (x : World). x.trace) told))
    (record { is = c.in_ok-push.ensures.ok; past = c.in_ok-push.ensures.past; few = c.in_ok-push.ensures.few }))
    (record {
      running = refl;
      to_stop = ap (λ (x : World). x.to_stop) order ∙ (ap (λ (x : World). x.to_stop) showed ∙ ap (λ (x : World). x.to_stop) told);
      boots = ap (λ (x : World). x.boots.items) order ∙ (ap (λ (x : World). x.boots.items) showed ∙ ap (λ (x : World). x.boots.items) told);
      net = ap (λ (x : World). x.net) order
          ∙ (c.in_ok-order_net.ensures
          ∙ (ap (λ (x : World). ordered x.net c.args.command.now) showed ∙ (ap (λ (x : World). ordered x.net c.args.command.now) told ∙ ap (λ (x : Command). ordered w.net x) is)));
      losses = ap (λ (x : World). x.losses.items) order ∙ (ap (λ (x : World). x.losses.items) showed ∙ ap (λ (x : World). x.losses.items) told);
      run_report = ap (λ (x : World). x.run_report) order
          ∙ (ap (λ (x : World). x.run_report) showed
          ∙ (c.in_ok-report_begin.ensures.tells ∙ ap (λ (x : Command). begins w.trace.places (past_of w.trace).facts (past_of w.trace).run_report n x) is));
      slots = orders_from _ c.order_disk.new.self w _ (ap (λ (x : World). x.slots.items) showed ∙ ap (λ (x : World). x.slots.items) told) refl c.in_ok-order_disk.ensures.stands;
      shown = subst (λ (x : Command). MayShow (λ m. disk_at w.slots.items m) n x w.shown c.order_disk.new.self.shown) is
          (subst (λ (ds : Shown). MayShow (λ m. disk_at w.slots.items m) n c.args.command.now w.shown ds) (sym (ap (λ (x : World). x.shown) order))
          (subst (λ (x : World). MayShow (λ m. disk_at x.slots.items m) n c.args.command.now x.shown c.show_disk.new.self.shown) told c.in_ok-show_disk.ensures.shows));
    })

pub returns-clause-orders : goal.returns-clause-orders
returns-clause-orders c =
    let w = c.args.self.now in
    let n = c.args.number in
    let told = c.report_begin.ensures.same in
    let showed = c.show_disk.ensures.same in
    let order = c.order_disk.ensures.same in
    let is = c.requires.command in
    let trace_is = ap (λ (x : World). x.trace) order ∙ (ap (λ (x : World). x.trace) showed ∙ ap (λ (x : World). x.trace) told) in
    let sites_are = ap (λ (x : World). x.slots.items) showed ∙ ap (λ (x : World). x.slots.items) told in
    begun_orders w (record c.order_disk.new.self { trace = c.push.new.self; running = c.args.number }) c.args.command.now c.requires.linked c.requires.orders
    (subst (λ (x : Command). IsInRange x) (sym is) (range_at w.trace.asked n c.requires.linked.held.script.in_range))
    (c.in_ok-order_disk.ensures.stands.count ∙ ap (λ (xs : List NodeSlot). length xs) sites_are)
    (subst (λ (xs : List NodeSlot). OrderedBy c.args.command.now xs c.order_disk.new.self.slots.items) sites_are c.in_ok-order_disk.ensures.orders)
    (ap (λ (p : Past). p.run_report.orders)
    (c.in_ok-push.ensures.past ∙ (ap (λ (r : RunSoFar). next r.places r.asked (past_of r) (happenings.Begun n)) trace_is ∙ next_begun w.trace.places w.trace.asked (past_of w.trace) n))
    ∙ ap (λ (x : Command). orders_after (past_of w.trace).run_report x) (sym is))

pub returns-in_err-report_begin-clause-left : goal.returns-in_err-report_begin-clause-left
returns-in_err-report_begin-clause-left c =
    let w = c.args.self.now in
    let told = c.report_begin.ensures.same in
    on_err c.from_residual.result (still_left c.report_begin.new.self (stays_still w c.report_begin.new.self (linked_still w c.requires.linked)
    (record { trace = ap (λ (x : World). x.trace) told; lines = c.in_err-report_begin.ensures.lines; shown = ap (λ (x : World). x.shown) told })))

pub returns-in_err-show_disk-clause-left : goal.returns-in_err-show_disk-clause-left
returns-in_err-show_disk-clause-left c =
    let told = c.report_begin.ensures.same in
    let showed = c.show_disk.ensures.same in
    on_err c.from_residual-in_err-show_disk.result (begin_left c.args.self.now c.show_disk.new.self c.args.number c.args.command.now c.requires.linked c.requires.due
    (ap (λ (x : World). x.trace) showed ∙ ap (λ (x : World). x.trace) told)
    (ap (λ (x : World). x.run_report) showed ∙ c.in_ok-report_begin.ensures.tells)
    (λ m other. ap (λ (s : Shown). shown_at s m) (c.in_err-show_disk.ensures.err ∙ ap (λ (x : World). x.shown) told)))

pub returns-in_err-order_net-clause-left : goal.returns-in_err-order_net-clause-left
returns-in_err-order_net-clause-left c =
    let told = c.report_begin.ensures.same in
    let showed = c.show_disk.ensures.same in
    on_err c.from_residual-in_err-order_net.result (begin_left c.args.self.now (record c.show_disk.new.self { net = c.order_net.new.net }) c.args.number c.args.command.now c.requires.linked c.requires.due
    (ap (λ (x : World). x.trace) showed ∙ ap (λ (x : World). x.trace) told)
    (ap (λ (x : World). x.run_report) showed ∙ c.in_ok-report_begin.ensures.tells)
    (λ m other. may_show_but (λ k. disk_at c.report_begin.new.self.slots.items k) c.args.number c.args.command.now c.report_begin.new.self.shown c.show_disk.new.self.shown c.in_ok-show_disk.ensures.shows m other ∙ ap (λ (x : World). shown_at x.shown m) told))

pub returns-in_err-order_disk-clause-left : goal.returns-in_err-order_disk-clause-left
returns-in_err-order_disk-clause-left c =
    let told = c.report_begin.ensures.same in
    let showed = c.show_disk.ensures.same in
    let order = c.order_disk.ensures.same in
    on_err c.from_residual-in_err-order_disk.result (begin_left c.args.self.now c.order_disk.new.self c.args.number c.args.command.now c.requires.linked c.requires.due
    (ap (λ (x : World). x.trace) order ∙ (ap (λ (x : World). x.trace) showed ∙ ap (λ (x : World). x.trace) told))
    (ap (λ (x : World). x.run_report) order ∙ (ap (λ (x : World). x.run_report) showed ∙ c.in_ok-report_begin.ensures.tells))
    (λ m other. ap (λ (x : World). shown_at x.shown m) order
    ∙ (may_show_but (λ k. disk_at c.report_begin.new.self.slots.items k) c.args.number c.args.command.now c.report_begin.new.self.shown c.show_disk.new.self.shown c.in_ok-show_disk.ensures.shows m other ∙ ap (λ (x : World). shown_at x.shown m) told)))

pub returns-in_err-push-clause-left : goal.returns-in_err-push-clause-left
returns-in_err-push-clause-left c =
    let told = c.report_begin.ensures.same in
    let showed = c.show_disk.ensures.same in
    let order = c.order_disk.ensures.same in
    on_err c.from_residual-in_err-push.result (begin_left c.args.self.now (record c.order_disk.new.self { trace = c.push.new.self }) c.args.number c.args.command.now c.requires.linked c.requires.due
    (c.in_err-push.ensures.err ∙ (ap (λ (x : World). x.trace) order ∙ (ap (λ (x : World). x.trace) showed ∙ ap (λ (x : World). x.trace) told)))
    (ap (λ (x : World). x.run_report) order ∙ (ap (λ (x : World). x.run_report) showed ∙ c.in_ok-report_begin.ensures.tells))
    (λ m other. ap (λ (x : World). shown_at x.shown m) order
    ∙ (may_show_but (λ k. disk_at c.report_begin.new.self.slots.items k) c.args.number c.args.command.now c.report_begin.new.self.shown c.show_disk.new.self.shown c.in_ok-show_disk.ensures.shows m other ∙ ap (λ (x : World). shown_at x.shown m) told)))
