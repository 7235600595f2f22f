-- What is known of the turn that is due: its node is there and can take it; and of the world once the node has.
use Rattle.std.proofs.Common.{◌≡◌, ◌≢◌, ◌++◌, ◌≤◌, ◌<◌, ℕ, List, length, option_map, Option, Some, None, OnErr, Result, Ok, Err, ap, sym, subst, ◌∙◌}
use Rattle.std.specs.Option.{option_to_list}
use Rattle.msg_codec.specs.Message.{message_of}
use Rattle.node_rules.specs.Data.{Input, Msg, Place, RedoRecord, Stmt}
use Rattle.node_rules.specs.Data.inputs
use Rattle.node_rules.specs.Inputs.{IsFit}
use Rattle.node_rules.specs.Words.{numbered, set_numbered}
use Rattle.node_rules.specs.NodeState.{NodeState}
use Rattle.node_rules.specs.Turn.{draft_of, turn_of}
use Rattle.node_rules.proofs.TurnLemmas.{step_of}
use Rattle.node_core.specs.Able.{MayTake}
use Rattle.node_disk.specs.declared.effects.DurableTurn.{DurableTurn}
use Rattle.node_disk.specs.declared.err.CutTurn.{CutTurn}
use Rattle.node_disk.specs.declared.err.TurnErr.{TurnErr}
use Rattle.node_disk.specs.declared.err.TurnErr.TheVariants as errs
use Rattle.node_disk.specs.declared.incoming.Incoming.{Incoming}
use Rattle.node_disk.specs.declared.incoming.Incoming.TheVariants as comings
use Rattle.node_disk.specs.Incoming.{IsReadAs}
use Rattle.node_disk.specs.OnDisk.{IsSpellable}
use Rattle.run_rules.specs.Cuts.{Cut_by, By_nothing, cut_by}
use Rattle.run_rules.specs.Data.{Session}
use Rattle.run_rules.specs.Facts.{node_at, place_at, records_at}
use Rattle.run_rules.specs.Lawful.{IsNode, boots}
use Rattle.run_rules.specs.RunReport.{Past, RunReport}
use Rattle.run_rules.proofs.AtNodeLemmas.{flat_some, range_of}
use Rattle.run_rules.proofs.BootLemmas.{boots_with, step_of_turn}
use Rattle.run_trace.specs.Recorded.{Extends, RunSoFar, past_of}
use Rattle.tran_ids.proofs.NumberedLemmas.{set_found, set_leaves, set_length}
use Rattle.world.specs.declared.slot.NodeSlot.{NodeSlot}
use Rattle.world.specs.declared.turning.Begun.{Begun}
use Rattle.world.specs.declared.world.World.{World}
use Rattle.world.specs.Left.{StillReports}
use Rattle.world.specs.Linked.{IsLinked}
use Rattle.world.specs.Needs.{CanTake, DueTurnsCanBeTaken}
use Rattle.world.specs.Served.{CanServe, HasFailed, HasServed}
use Rattle.world.specs.NodeSlot.{SiteIs, site_kept}
use Rattle.world.specs.Steps.{StepsOn}
use Rattle.world.specs.Turns.{CallerAt, CallerIs, CallerOf, IsComingDue, IsCutDuring, IsCutDuringAt, IsCutOff, IsCutShort, IsDuring, IsDuringAt, IsReadied, IsTurned, TurnIsUnderWay}
use Rattle.world.proofs.DueLemmas.{kept_is, kept_there}
use Rattle.world.proofs.ServeLemmas.{can_serve, site_cut, site_whole}
use Rattle.world.proofs.SlotLemmas.{same_of}
use Rattle.world.proofs.TurnLeftLemmas.{same_still, tells_linked}

-- a turn's record is no Boot
boots_of_turn : (place : Place) (k : NodeState) (input : Input) (rs : List RedoRecord) → IsFit input → boots (rs ++ option_to_list (turn_of place k input).wrote) ≡ boots rs
unfolding turn_of
boots_of_turn place k input rs fit = boots_with rs (draft_of place k input).wrote (step_of_turn place input (step_of place k input fit))

-- a message is no call
no_message : (o : Option Msg) (session : ℕ) (statement : Option Stmt) → option_map inputs.Message o ≡ Some (inputs.Call session statement) → ⊥
no_message None session statement is = absurd cc
no_message (Some m) session statement is = absurd cc

-- the caller of what comes is that of what is read
caller_read : (k : NodeState) (incoming : Incoming) (input : Input) (s : Session) → IsReadAs incoming input → CallerIs incoming (Some k) s → CallerOf k input s
caller_read k incoming (inputs.Call session statement) s read caller = by incoming read caller
  where
    by : (x : Incoming) → IsReadAs x (inputs.Call session statement) → CallerIs x (Some k) s → CallerOf k (inputs.Call session statement) s
    by (comings.Call m st) read caller = subst (λ (x : Input). CallerOf k x s) (same_of (inputs.Call m st) (inputs.Call session statement) read) caller
    by (comings.GiveUp m) read caller = absurd cc
    by (comings.Message bytes) read caller = absurd (no_message (message_of bytes) session statement read)
    by comings.Reco read caller = absurd cc
caller_read k incoming (inputs.GiveUp session) s read caller = tt
caller_read k incoming (inputs.Message m) s read caller = tt
caller_read k incoming inputs.Reco s read caller = tt
caller_read k incoming inputs.Checkpoint s read caller = tt

module _ (w : World) (n : ℕ) (incoming : Incoming) (linked : IsLinked w) (laws : DueTurnsCanBeTaken) (coming : IsComingDue incoming n w) where
  abbrev p : Past
  p = past_of w.trace

  abbrev place : Place
  place = place_at w.trace.places n

  taken_by : (k : NodeState) × CanTake w.trace.places p.facts n coming.reads.0 k
  taken_by = laws w.trace n coming.reads.0 linked.held.script (coming.due coming.reads.0 coming.reads.1)

  abbrev k : NodeState
  k = taken_by.0

  up : node_at p.facts n ≡ Some k
  up = taken_by.1.up

  -- whatever it is read as
  same_input : (input : Input) → IsReadAs incoming input → coming.reads.0 ≡ input
  same_input input read = same_of coming.reads.0 input (sym coming.reads.1 ∙ read)

  takes : (input : Input) → IsReadAs incoming input → MayTake place k input × IsSpellable (turn_of place k input)
  takes input read = (
    subst (λ (x : Input). MayTake place k x) (same_input input read) taken_by.1.takes,
    subst (λ (x : Input). IsSpellable (turn_of place k x)) (same_input input read) taken_by.1.spellable,
  )

  -- its node is there
  pub coming_there : IsNode (length w.slots.items) n
  coming_there =
      let range = range_of p.facts.nodes n (Some k) (flat_some (numbered p.facts.nodes n) k up) in
      (range.0, subst (λ (count : ℕ). n ≤ count) (linked.held.counted.nodes ∙ sym linked.held.counted.slots) range.1)

  kept_here : (slot : NodeSlot) → numbered w.slots.items n ≡ Some slot → site_kept slot ≡ Some k
  kept_here slot there = kept_there w linked n slot there ∙ up

  -- and can take it
  pub coming_served : (slot : NodeSlot) → numbered w.slots.items n ≡ Some slot → CanServe slot incoming
  coming_served slot there = can_serve place k incoming slot (linked.held.slots n slot there).runs (kept_here slot there) coming.reads takes

  caller_here : (s : Session) → CallerAt w.slots.items n incoming s → CallerIs incoming (Some k) s
  caller_here s caller = subst (λ (o : Option NodeState). CallerIs incoming o s) (kept_is w linked n ∙ up) caller

module _ (w v : World) (begun : Begun) (incoming : Incoming) (ready : IsReadied begun incoming w) (old new : NodeSlot) (found : numbered w.slots.items begun.node ≡ Some old)
    (same : v ≡ record w { slots = v.slots }) (set : v.slots.items ≡ set_numbered w.slots.items begun.node new) where
  abbrev keeps : NodeState
  keeps = k w begun.node incoming ready.linked ready.turns ready.coming

  abbrev at : Place
  at = place_at w.trace.places begun.node

  abbrev past_now : Past
  past_now = past_of w.trace

  left : (m : ℕ) → begun.node ≢ m → numbered v.slots.items m ≡ numbered w.slots.items m
  left m other = ap (λ (slots : List NodeSlot). numbered slots m) set ∙ set_leaves w.slots.items begun.node m new other

  -- the node has taken its turn, which this cuts
  taken_so : (input : Input) → IsReadAs incoming input → (by : Cut_by) → cut_by past_now.run_report begun.node keeps input (turn_of at keeps input) ≡ by → TurnIsUnderWay begun input keeps v by
  taken_so input read by cut = subst (λ (x : World). TurnIsUnderWay begun input keeps x by) (sym same) (record {
    script = ready.linked.held.script;
    parts = record {
      running = ready.linked.held.parts.running;
      net = ready.linked.held.parts.net;
      losses = ready.linked.held.parts.losses;
      to_stop = ready.linked.held.parts.to_stop;
      boots = ready.linked.held.parts.boots;
      run_report = ready.linked.held.parts.run_report;
    };
    upright = ready.linked.upright;
    counted = record {
      slots = ap (λ (slots : List NodeSlot). length slots) set ∙ (set_length w.slots.items begun.node new ∙ ready.linked.held.counted.slots);
      nodes = ready.linked.held.counted.nodes;
      records = ready.linked.held.counted.records;
    };
    others = λ m slot other there. ready.linked.held.slots m slot (sym (left m other) ∙ there);
    orders = λ m slot other there. ready.orders m slot (sym (left m other) ∙ there);
    shown = ready.linked.held.shown;
    due = ready.coming.due input read;
    took = ready.took;
    few = ready.deliveries w.trace ready.linked.held.script;
    up = up w begun.node incoming ready.linked ready.turns ready.coming;
    caller = caller_read keeps incoming input begun.caller read (caller_here w begun.node incoming ready.linked ready.turns ready.coming begun.caller ready.caller);
    boots = boots_of_turn at keeps input (records_at past_now.facts begun.node) (takes w begun.node incoming ready.linked ready.turns ready.coming input read).0.expected.fit;
    cut = cut;
  })

  new_is : (slot : NodeSlot) → numbered v.slots.items begun.node ≡ Some slot → new ≡ slot
  new_is slot there = same_of new slot (sym (ap (λ (slots : List NodeSlot). numbered slots begun.node) set ∙ set_found w.slots.items begun.node old new found) ∙ there)

  is_old : SiteIs w.trace.places past_now begun.node old
  is_old = ready.linked.held.slots begun.node old found

  kept_old : site_kept old ≡ Some keeps
  kept_old = kept_here w begun.node incoming ready.linked ready.turns ready.coming old found

  -- a whole turn is under way
  pub whole_during : (e : DurableTurn) → HasServed old new incoming w.run_report.points e → IsDuring begun e v
  whole_during e served =
      let was = site_whole past_now.run_report begun.node at keeps incoming (records_at past_now.facts begun.node) w.run_report.points (ap (λ t. t.points) ready.linked.held.parts.run_report)
      old new e is_old.runs kept_old is_old.holds (ready.orders begun.node old found) served in
      let during : IsDuringAt begun e v keeps = subst (λ (x : World). IsDuringAt begun e x keeps) (sym same) (record {
        under_way = subst (λ (x : World). TurnIsUnderWay begun e.input keeps x By_nothing) same (taken_so e.input was.input By_nothing was.cut);
        tells = was.tells;
        passed = was.passed;
        mailed = was.mailed;
        slot = λ slot there. subst (λ (x : NodeSlot). IsTurned (record w { slots = v.slots }) begun.node (turn_of at keeps e.input) x) (new_is slot there)
            (record { kept = was.kept; runs = was.runs; holds = was.holds; starts = was.starts; orders = was.orders });
      }) in
      (keeps, during)

  -- and so is one that was cut
  pub cut_during : (c : CutTurn) → HasFailed old new incoming w.run_report.points (errs.Cut c) → IsCutDuring begun c v
  cut_during c failed =
      let found_by = site_cut past_now.run_report begun.node at keeps incoming (records_at past_now.facts begun.node) w.run_report.points (ap (λ t. t.points) ready.linked.held.parts.run_report)
      old new c is_old.runs kept_old is_old.holds (ready.orders begun.node old found) failed in
      let by : Cut_by = found_by.0 in
      let was = found_by.1 in
      let during : IsCutDuringAt begun c v keeps by = subst (λ (x : World). IsCutDuringAt begun c x keeps by) (sym same) (record {
        under_way = subst (λ (x : World). TurnIsUnderWay begun c.input keeps x by) same (taken_so c.input was.input by was.cut);
        is_cut = was.is_cut;
        tried = was.tried;
        passed = was.passed;
        slot = λ slot there. subst (λ (x : NodeSlot). IsCutOff (record w { slots = v.slots }) begun.node (turn_of at keeps c.input) by x) (new_is slot there)
            (record { holds = was.holds; starts = was.starts; orders = was.orders });
      }) in
      (keeps, by, during)

  -- why ever the turn came to no end
  pub failed_during : (err : TurnErr) → HasFailed old new incoming w.run_report.points err → IsCutShort begun err v
  failed_during (errs.Cut c) failed = cut_during c failed
  failed_during errs.NoMemory failed = tt

-- ---- the lines of the commands before, whatever becomes of a turn

pub served_still : (w u : World) → IsLinked w → u.trace ≡ w.trace → u.run_report ≡ w.run_report → u.shown ≡ w.shown → StillReports u
served_still w u linked trace run_report shown = same_still w u (ap (λ (t : RunReport). t.lines) run_report) shown (tells_linked w linked) trace

pub still_through : {T E : Type 0} (r : Result T E) (u v : World) → StillReports u → (StillReports u → StillReports v) → OnErr r (StillReports v)
still_through (Ok x) u v still on = tt
still_through (Err e) u v still on = on still

-- ---- the same run so far

pub steps_from : (u w v : World) → u.trace ≡ w.trace → StepsOn u v → StepsOn w v
steps_from u w v same steps = record { linked = steps.linked; longer = subst (λ (r : RunSoFar). length r.happenings < length v.trace.happenings) same steps.longer; few = steps.few }

pub extends_from : (u w v : World) → u.trace ≡ w.trace → Extends u.trace v.trace → Extends w.trace v.trace
extends_from u w v same extends = subst (λ (r : RunSoFar). Extends r v.trace) same extends

pub ruleset take_steps = (steps_from, extends_from)
