-- The world after a stop.
use Rattle.std.proofs.Common.{◌≡◌, ◌≢◌, ℕ, Bool, if◌then◌else◌, List, length, Option, Some, None, refl, sym, ap, subst, ◌∙◌}
use Rattle.node_rules.specs.Data.{Place}
use Rattle.node_rules.specs.Words.{set_numbered}
use Rattle.run_rules.specs.Data.{Command, Happening}
use Rattle.run_rules.specs.Data.happenings
use Rattle.net_bag.specs.Net.{Net, lost_by_stop, stopped}
use Rattle.run_rules.specs.Facts.{facts_after}
use Rattle.run_rules.specs.RunReport.{Past}
use Rattle.run_rules.specs.Past.{acts, next, report_stopped}
use Rattle.record_log.specs.Held.{HoldRecords}
use Rattle.node_rules.specs.Words.{numbered}
use Rattle.tran_ids.proofs.NumberedLemmas.{set_found, set_leaves, set_length}
use Rattle.run_rules.specs.Facts.{flat, node_at, place_at, records_at}
use Rattle.run_rules.proofs.AtNodeLemmas.{there_too}
use Rattle.run_trace.specs.Recorded.{RunSoFar, IsDueNext, past_of}
use Rattle.world.specs.declared.slot.NodeSlot.{NodeSlot}
use Rattle.world.specs.declared.world.World.{World}
use Rattle.run_rules.specs.Lawful.{IsNode}
use Rattle.world.specs.Needs.{DueNodesAreThere, NamesNodes, IsOfScript, due_in}
use Rattle.world.specs.Linked.{HoldsRun, IsLinked, OnlyFalls}
use Rattle.world.specs.NodeSlot.{SiteIs, SitesAre, has_to_fall, up_at}
use Rattle.world.specs.Steps.{StepsOn}
use Rattle.world.specs.Stops.{HasStopped}
use Rattle.world.proofs.SlotLemmas.{SameAt, down_runs, site_set}
use Rattle.world.proofs.StepLemmas.{IsPushed, Leaves, shown_on, stands_of, steps_on}
use Rattle.world_parts.proofs.ToStopLemmas.{stop_ends}
use Rattle.run_rules.specs.Due.{Due, Falls, Stops, comes_next, due_of}

module _ (places : List Place) (commands : List Command) where
  pub next_stopped : (p : Past) (n : ℕ) → next places commands p (happenings.Stopped n)
      ≡ record {
        facts = record p.facts { nodes = set_numbered p.facts.nodes n None; net = stopped p.facts.net n; losses_to_report = lost_by_stop p.facts.net n; node_to_stop = None };
        run_report = acts (report_stopped places commands p.facts p.run_report n);
      }
  unfolding next facts_after
  next_stopped p n = refl

  -- a stop that is due comes next
  pub falls_next : (p : Past) (n : ℕ) → due_of commands p ≡ Falls n → comes_next places commands p ≡ Some (happenings.Stopped n)
  falls_next p n due = rw (due) refl

  pub stops_next : (p : Past) (n : ℕ) → due_of commands p ≡ Stops n → comes_next places commands p ≡ Some (happenings.Stopped n)
  stops_next p n due = rw (due) refl

-- What a stop of a node leaves of the world beside its sites.
pub record Halts (n : ℕ) (w v : World) : Type 0 where
  pub running : v.running ≡ w.running
  pub to_stop : v.to_stop ≡ None
  pub boots : v.boots.items ≡ w.boots.items
  pub shown : v.shown ≡ w.shown
  pub net : v.net ≡ stopped w.net n
  pub losses : v.losses.items ≡ lost_by_stop w.net n
  pub run_report : v.run_report ≡ acts (report_stopped w.trace.places w.trace.asked (past_of w.trace).facts (past_of w.trace).run_report n)

module _ (w v : World) (n : ℕ) (held : HoldsRun w) (due : IsDueNext w.trace (happenings.Stopped n)) (pushed : IsPushed w.trace v.trace (happenings.Stopped n)) (only : OnlyFalls (past_of w.trace) n)
    (halts : Halts n w v) (old new : NodeSlot) (there : numbered w.slots.items n ≡ Some old) (has : HasStopped old new) (set : v.slots.items ≡ set_numbered w.slots.items n new) where
  abbrev p : Past
  p = past_of w.trace

  abbrev q : Past
  q = record {
    facts = record p.facts { nodes = set_numbered p.facts.nodes n None; net = stopped p.facts.net n; losses_to_report = lost_by_stop p.facts.net n; node_to_stop = None };
    run_report = acts (report_stopped w.trace.places w.trace.asked p.facts p.run_report n);
  }

  none_left : q.run_report.start_to_stop ≡ None
  none_left = stop_ends w.trace.places w.trace.asked p.facts p.run_report n

  up_is : (m : ℕ) → up_at q m ≡ node_at q.facts m
  up_is m = ap (λ (o : Option ℕ). if has_to_fall o m then None else node_at q.facts m) none_left

  here : up_at q n ≡ None
  here =
      let node = there_too w.slots.items p.facts.nodes n old (held.counted.slots ∙ sym held.counted.nodes) there in
      up_is n ∙ ap flat (set_found p.facts.nodes n node.0 None node.1)

  elsewhere : (m : ℕ) → n ≢ m → SameAt p q m
  elsewhere m other = record {
    kept = up_is m ∙ (ap flat (set_leaves p.facts.nodes n m None other) ∙ sym (ap (λ (b : Bool). if b then None else node_at p.facts m) (only m other)));
    records = refl;
  }

  stopped_site : SiteIs w.trace.places q n new
  stopped_site =
      let is : SiteIs w.trace.places p n old = held.slots n old there in
      record {
        kept = has.kept ∙ sym here;
        runs = down_runs (place_at w.trace.places n) new has.kept;
        holds = subst (λ (bytes : List ℕ). HoldRecords (records_at p.facts n) bytes) (sym has.bytes) is.holds;
        starts = has.starts _ is.starts;
      }

  leaves : Leaves w v q
  leaves = record {
    parts = record {
      running = halts.running ∙ held.parts.running;
      net = halts.net ∙ ap (λ (net : Net). stopped net n) held.parts.net;
      losses = halts.losses ∙ ap (λ (net : Net). lost_by_stop net n) held.parts.net;
      to_stop = halts.to_stop;
      boots = halts.boots ∙ held.parts.boots;
      run_report = halts.run_report;
    };
    count = ap (λ (slots : List NodeSlot). length slots) set ∙ set_length w.slots.items n new;
    nodes = set_length p.facts.nodes n None;
    records = refl;
    slots = subst (λ (slots : List NodeSlot). SitesAre w.trace.places q slots) (sym set)
        (site_set w.trace.places p q n elsewhere w.slots.items old new there stopped_site (λ m slot other at. held.slots m slot at));
  }

  pub halt_steps : StepsOn w v
  halt_steps =
      let is = next_stopped w.trace.places w.trace.asked p n in
      steps_on w v (happenings.Stopped n) (stands_of w held) due pushed (shown_on w v (happenings.Stopped n) (stands_of w held) due pushed (λ c same. absurd cc) halts.shown) (subst (λ (x : Past). Leaves w v x) (sym is) leaves)
      (ap (λ (x : Past). x.run_report.start_to_stop) is ∙ none_left)

-- the same happening in the same trace
pub pushed_in : (before same after : RunSoFar) (h : Happening) → same ≡ before → IsPushed same after h → IsPushed before after h
pushed_in before same after h is pushed = subst (λ (r : RunSoFar). IsPushed r after h) is pushed

-- no node has to stop since an order struck its start
pub upright_falls : (w : World) → IsLinked w → (n : ℕ) → OnlyFalls (past_of w.trace) n
upright_falls w linked n m other = ap (λ (o : Option ℕ). has_to_fall o m) linked.upright

-- the node of a stop that is due is there
pub falls_there : (r : RunSoFar) (n : ℕ) → DueNodesAreThere → IsOfScript r → due_in r ≡ Falls n → IsNode (length r.places) n
falls_there r n law script due = subst (λ (d : Due). NamesNodes (length r.places) d) due (law r script)

pub stops_there : (r : RunSoFar) (n : ℕ) → DueNodesAreThere → IsOfScript r → due_in r ≡ Stops n → IsNode (length r.places) n
stops_there r n law script due = subst (λ (d : Due). NamesNodes (length r.places) d) due (law r script)

pub ruleset stop_steps = (next_stopped, falls_next, stops_next, upright_falls, falls_there, stops_there)
