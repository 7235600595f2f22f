use Rattle.std.proofs.Common.{ℕ, ◌-◌, ◌≤◌, get_or, refl, ap, sym, subst, ◌∙◌}
use Rattle.std.specs.List.{slice_set}
use Rattle.net_bag.specs.Net.{lost_by_stop, stopped}
use Rattle.run_rules.specs.Data.happenings
use Rattle.run_rules.specs.Past.{next}
use Rattle.run_trace.specs.Recorded.{past_of}
use Rattle.world.proofs.CutLemmas.{stops_set}
use Rattle.world.specs.declared.world.World.{World}
use Rattle.world.proofs.SlotLemmas.{read_at, set_at}
use Rattle.world.proofs.StopLemmas.{halt_steps, pushed_in}
use Rattle.world.proofs.world.World.halt.Goals as goal

pub returns-clause-steps : goal.returns-clause-steps
returns-clause-steps c =
    let same = c.report_stop.ensures.same in
    let slot = c.index_mut.result.now in
    let inside = subst (λ (k : ℕ). c.args.node ≤ k) (sym c.requires.held.counted.slots) c.requires.there.1 in
    let read = c.index_mut.ensures.value ∙ (ap (λ (k : ℕ). get_or c.report_stop.new.self.slots.items (k - 1) slot) c.from.ensures ∙ ap (λ (x : World). get_or x.slots.items (c.args.node - 1) slot) same) in
    halt_steps c.args.self.now _ c.args.node c.requires.held c.requires.next
    (pushed_in c.args.self.now.trace c.report_stop.new.self.trace c.push.new.self (happenings.Stopped c.args.node) (ap (λ (x : World). x.trace) same)
    (record { is = c.in_ok-push.ensures.ok; past = c.in_ok-push.ensures.past; few = c.in_ok-push.ensures.few }))
    c.requires.only
    (record {
      running = ap (λ (x : World). x.running) same;
      to_stop = refl;
      boots = ap (λ (x : World). x.boots.items) same;
      shown = ap (λ (x : World). x.shown) same;
      net = c.in_ok-lost.ensures.stopped ∙ ap (λ (x : World). stopped x.net c.args.node) same;
      losses = c.in_ok-self.ensures ∙ (c.into_vec.ensures ∙ (c.in_ok-lost.ensures.lost ∙ ap (λ (x : World). lost_by_stop x.net c.args.node) same));
      run_report = c.in_ok-report_stop.ensures.tells;
    })
    c.index_mut.result.now c.stop-2.new.self (read_at c.args.self.now.slots.items c.args.node slot c.requires.there.0 inside read)
    (record { kept = c.stop-2.ensures.kept; bytes = c.stop-2.ensures.bytes; starts = c.stop-2.ensures.starts })
    (ap (λ (k : ℕ). slice_set c.report_stop.new.self.slots.items (k - 1) c.stop-2.new.self) c.from.ensures
    ∙ (ap (λ (x : World). slice_set x.slots.items (c.args.node - 1) c.stop-2.new.self) same ∙ set_at c.args.self.now.slots.items c.args.node c.stop-2.new.self c.requires.there.0))

pub returns-clause-halted : goal.returns-clause-halted
returns-clause-halted c =
    let same = c.report_stop.ensures.same in
    let slots = c.args.self.now.slots.items in
    let slot = c.index_mut.result.now in
    let inside = subst (λ (k : ℕ). c.args.node ≤ k) (sym c.requires.held.counted.slots) c.requires.there.1 in
    let read = c.index_mut.ensures.value ∙ (ap (λ (k : ℕ). get_or c.report_stop.new.self.slots.items (k - 1) slot) c.from.ensures ∙ ap (λ (x : World). get_or x.slots.items (c.args.node - 1) slot) same) in
    record {
      slots = stops_set c.args.node slots slot c.stop-2.new.self (read_at slots c.args.node slot c.requires.there.0 inside read)
          (record { kept = c.stop-2.ensures.kept; bytes = c.stop-2.ensures.bytes; starts = c.stop-2.ensures.starts })
          (record { orders = c.stop-2.ensures.power })
          _ (ap (λ (k : ℕ). slice_set c.report_stop.new.self.slots.items (k - 1) c.stop-2.new.self) c.from.ensures
          ∙ (ap (λ (x : World). slice_set x.slots.items (c.args.node - 1) c.stop-2.new.self) same ∙ set_at slots c.args.node c.stop-2.new.self c.requires.there.0));
      past = c.in_ok-push.ensures.past ∙ ap (λ (x : World). next x.trace.places x.trace.asked (past_of x.trace) (happenings.Stopped c.args.node)) same;
    }
