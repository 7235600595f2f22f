use Rattle.std.proofs.Common.{is_some, Option, sym, ap, ◌∙◌}
use Rattle.node_rules.specs.NodeState.{NodeState}
use Rattle.run_rules.specs.Disks.{DiskOrders, Strike, struck}
use Rattle.run_rules.specs.Facts.{is_up}
use Rattle.run_rules.specs.RunReport.{orders_at}
use Rattle.run_trace.specs.Recorded.{past_of}
use Rattle.world.specs.declared.world.World.{World}
use Rattle.world.specs.Halts.{HasHalted}
use Rattle.world.specs.Needs.{due_in}
use Rattle.world_parts.specs.Orders.{stands_in}
use Rattle.world.specs.Starts.{HasBooted}
use Rattle.world.proofs.FallLemmas.{booted_on, failed_orders}
use Rattle.world.proofs.TryLemmas.{can_start, on_ok, start_is_down, strike_is, tried_begins, tried_stays}
use Rattle.world.proofs.world.World.start.Goals as goal

pub try_start-requires-clause-ready : goal.try_start-requires-clause-ready
try_start-requires-clause-ready c =
    can_start c.args.self.now c.args.node c.requires.linked c.requires.due c.starts_can_be_made.ensures.nodes c.starts_can_be_made.ensures.starts c.hold_one_list.ensures

pub boot-requires : goal.boot-requires
boot-requires c =
    let w = c.args.self.now in
    let n = c.args.node in
    let strike = strike_is w n c.struck-strike.result c.requires.linked (c.struck-strike.ensures ∙ ap (λ (d : DiskOrders). struck 3 d) c.orders_at.ensures) in
    record {
      begun = tried_begins w c.try_start.new.self n c.requires.linked c.requires.orders c.requires.due c.starts_can_be_made.ensures.nodes c.starts_can_be_made.ensures.starts c.in_ok-try_start.ensures.tried
          (ap (λ (o : Option Strike). stands_in o) (strike ∙ c.in-None.is));
    }

pub boot_and_fall-requires-clause-begun : goal.boot_and_fall-requires-clause-begun
boot_and_fall-requires-clause-begun c =
    let w = c.args.self.now in
    let n = c.args.node in
    let strike = strike_is w n c.struck-strike.result c.requires.linked (c.struck-strike.ensures ∙ ap (λ (d : DiskOrders). struck 3 d) c.orders_at.ensures) in
    tried_begins w c.try_start.new.self n c.requires.linked c.requires.orders c.requires.due c.starts_can_be_made.ensures.nodes c.starts_can_be_made.ensures.starts c.in_ok-try_start.ensures.tried
    (ap (λ (o : Option Strike). stands_in o) (strike ∙ c.in-Some.is) ∙ (ap (λ (s : Strike). s.stands) (sym c.strike.view_is) ∙ c.if-strike.true))

pub halt-requires-clause-held : goal.halt-requires-clause-held
halt-requires-clause-held c =
    let w = c.args.self.now in
    let n = c.args.node in
    let strike = strike_is w n c.struck-strike.result c.requires.linked (c.struck-strike.ensures ∙ ap (λ (d : DiskOrders). struck 3 d) c.orders_at.ensures) in
    tried_stays w c.try_start.new.self n c.requires.linked c.requires.orders c.requires.due c.starts_can_be_made.ensures.nodes c.starts_can_be_made.ensures.starts c.in_ok-try_start.ensures.tried
    (ap (λ (o : Option Strike). stands_in o) (strike ∙ c.in-Some.is) ∙ (ap (λ (s : Strike). s.stands) (sym c.strike.view_is) ∙ c.if-strike.false))

pub halt-requires-clause-up : goal.halt-requires-clause-up
halt-requires-clause-up c =
    let w = c.args.self.now in
    let n = c.args.node in
    let down = start_is_down w n c.requires.linked c.requires.due c.starts_can_be_made.ensures.nodes c.starts_can_be_made.ensures.starts in
    sym (ap (λ (x : World). is_up (past_of x.trace).facts n) c.try_start.ensures.same ∙ ap (λ (o : Option NodeState). is_some o) down)

pub returns-in-None-clause-steps : goal.returns-in-None-clause-steps
returns-in-None-clause-steps c =
    let w = c.args.self.now in
    let v = c.try_start.new.self in
    let n = c.args.node in
    let same = c.try_start.ensures.same in
    let none = strike_is w n c.struck-strike.result c.requires.linked (c.struck-strike.ensures ∙ ap (λ (d : DiskOrders). struck 3 d) c.orders_at.ensures) ∙ c.in-None.is in
    let begun =
    tried_begins w v n c.requires.linked c.requires.orders c.requires.due c.starts_can_be_made.ensures.nodes c.starts_can_be_made.ensures.starts c.in_ok-try_start.ensures.tried
    (ap (λ (o : Option Strike). stands_in o) none) in
    on_ok c.boot.result (HasBooted n v c.boot.new.self) _ c.boot.ensures.booted (λ booted.
    booted_on w v c.boot.new.self n (ap (λ (x : World). x.trace) same) begun (ap (λ (x : World). due_in x.trace) same ∙ c.requires.due) booted
    (ap (λ (x : World). struck 3 (orders_at (past_of x.trace).run_report n)) same ∙ none))

pub returns-else-strike-clause-orders : goal.returns-else-strike-clause-orders
returns-else-strike-clause-orders c =
    on_ok c.halt.result (HasHalted c.args.node c.try_start.new.self c.halt.new.self) _ c.halt.ensures.halted (λ halted.
    failed_orders c.args.self.now c.try_start.new.self c.halt.new.self c.args.node c.requires.due c.requires.linked c.requires.orders c.starts_can_be_made.ensures.nodes c.starts_can_be_made.ensures.starts c.in_ok-try_start.ensures.tried halted)
