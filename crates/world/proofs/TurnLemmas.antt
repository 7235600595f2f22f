-- A turn that is due is the happening that comes next, and what it leaves.
use Rattle.std.proofs.Common.{◌≡◌, ◌≢◌, ◌⊎◌, inl, inr, ◌≤◌, ◌<◌, ◌-◌, ◌^◌, is_some, arith, ℕ, zero, suc, true, false, if◌then◌else◌, List, [], ◌∷◌, ◌++◌, length, map, unwrap_or, slice_get, slice_set, Option, Some, None, refl, ap, sym, subst, ◌∙◌}
use Rattle.std.specs.Option.{option_to_list}
use Rattle.std.specs.Prelude.{IfSome}
use Rattle.record_log.specs.Held.{HoldRecords}
use Rattle.net_bag.specs.Net.{Net, lost_at_once, sent_on}
use Rattle.node_rules.specs.Words.{numbered, set_numbered}
use Rattle.node_disk.specs.Starts.{CanBeStarted}
use Rattle.node_disk.specs.Effects.{mailed}
use Rattle.node_disk.specs.declared.effects.DurableTurn.{DurableTurn}
use Rattle.node_disk.specs.declared.effects.Mailed.{Mailed}
use Rattle.node_rules.specs.Data.{Stmt}
use Rattle.node_rules.specs.Data.inputs
use Rattle.node_rules.specs.Sessions.{session_at}
use Rattle.tran_ids.proofs.NumberedLemmas.{set_found, set_leaves, set_length}
use Rattle.run_rules.specs.Data.{Session, Turn}
use Rattle.run_rules.specs.Facts.{facts_turned, flat, kept_after, outcome_at, records_at, served, taken, to_stop_after}
use Rattle.run_rules.specs.Lawful.{IsNode, boots}
use Rattle.run_rules.specs.Past.{next, report_turned, turned}
use Rattle.run_rules.specs.RunReport.{RunReport, orders_at}
use Rattle.run_rules.proofs.AtNodeLemmas.{flat_some, range_of, there_too}
use Rattle.run_trace.specs.Recorded.{happening_limit, IsDueNext, past_of}
use Rattle.world.specs.declared.slot.NodeSlot.{NodeSlot}
use Rattle.world.specs.declared.turning.Begun.{Begun}
use Rattle.world.specs.declared.world.World.{World}
use Rattle.world.specs.NodeSlot.{OtherSitesAre, RunsAt, SiteIs, has_to_fall, up_at, site_disk, site_kept, bytes_of, images_of}
use Rattle.world_parts.specs.Orders.{HasOrders, cut_orders}
use Rattle.world.specs.Orders.{OrdersAre}
use Rattle.world.specs.Steps.{StepsOn}
use Rattle.world.specs.Turns.{CallerOf, IsDuringAt, TurnIsUnderWay}
use Rattle.world.proofs.SlotLemmas.{SameAt, others_stay, own_and_others, same_or}
use Rattle.world.proofs.StepLemmas.{IsPushed, Leaves, Stands, shown_on, steps_on}
use Rattle.world_parts.proofs.OrderLemmas.{cut_elsewhere, cut_here}
use Rattle.world_parts.proofs.ToStopLemmas.{turn_orders, turn_upright}
use Rattle.node_rules.specs.Data.{RedoRecord, Place, Input, Msg}
use Rattle.node_rules.specs.NodeState.{NodeState, TurnOutput}
use Rattle.node_rules.specs.Turn.{turn_of}
use Rattle.run_rules.specs.Data.{Command, Happening, Took}
use Rattle.run_rules.specs.Data.happenings
use Rattle.run_rules.specs.Cuts.{Cut_by, By_nothing, By_strike, By_point, cut_appends, cut_by}
use Rattle.run_rules.specs.Disks.{DiskOrders, no_orders}
use Rattle.run_rules.specs.Facts.{node_at, place_at}
use Rattle.run_rules.specs.RunReport.{Past}
use Rattle.run_rules.specs.Due.{Due, first_losses, falls_first, Tells, Falls, Pends, Gives_up, Delivers, Recovers, Cuts, Joins, Loses, Stops, Starts, Begins, Ends, comes_next, due_of, happens, turn_at, turn_by}
use Rattle.world.specs.Needs.{IsTurnDue}
use Rattle.world.specs.Turns.{TookIs, stands_by, stood}

module _ (places : List Place) (p : Past) where
  -- a turn that is due happens where its node is up
  turn_happens : (d : Due) (n : ℕ) (input : Input) (took : Option Took) → IsTurnDue p.facts d n input → TookIs d took
      → happens places p d ≡ turn_at places p.run_report n input took (node_at p.facts n)
  turn_happens (Pends c) n input took due is = rw (due.0, due.1, is) refl
  turn_happens (Gives_up m session) n input took due is = rw (due.0, due.1, is) refl
  turn_happens (Delivers k again) n input took due is = rw (due.1, due.2, due.3, is) refl
  turn_happens (Recovers m) n input took due is = rw (due.0, due.1, is) refl
  turn_happens (Tells k) n input took due is = absurd due
  turn_happens (Falls m) n input took due is = absurd due
  turn_happens (Cuts a b) n input took due is = absurd due
  turn_happens (Joins a b) n input took due is = absurd due
  turn_happens (Loses k) n input took due is = absurd due
  turn_happens (Stops m) n input took due is = absurd due
  turn_happens (Starts m) n input took due is = absurd due
  turn_happens (Begins c) n input took due is = absurd due
  turn_happens Ends n input took due is = absurd due

  -- and it is the turn of the rules, cut by what the definitions of a run say
  pub turn_comes_next : (commands : List Command) (n : ℕ) (input : Input) (took : Option Took) (k : NodeState) (by : Cut_by) → IsTurnDue p.facts (due_of commands p) n input → TookIs (due_of commands p) took
      → node_at p.facts n ≡ Some k → cut_by p.run_report n k input (turn_of (place_at places n) k input) ≡ by
      → comes_next places commands p ≡ Some (turn_by n input took (turn_of (place_at places n) k input) by)
  turn_comes_next commands n input took k by due is up cut =
      turn_happens (due_of commands p) n input took due is
      ∙ (ap (turn_at places p.run_report n input took) up ∙ ap (λ (c : Cut_by). Some (turn_by n input took (turn_of (place_at places n) k input) c)) cut)

-- a turn that is cut has its record where that stands, and says nothing
pub cut_is : (n : ℕ) (input : Input) (took : Option Took) (o : TurnOutput) (by : Cut_by) → (by ≡ By_nothing → ⊥)
    → turn_by n input took o by ≡ happenings.Turn (record { node = n; input = input; took = took; wrote = stood (stands_by by) o.wrote; sent = []; cut = true })
cut_is n input took o By_nothing not = absurd (not refl)
cut_is n input took o (By_strike true) not = refl
cut_is n input took o (By_strike false) not = refl
cut_is n input took o (By_point root numbers true) not = refl
cut_is n input took o (By_point root numbers false) not = refl

-- a turn is due where no node has to stop
settled : (commands : List Command) (p : Past) (n : ℕ) (input : Input) → IsTurnDue p.facts (due_of commands p) n input → p.facts.node_to_stop ≡ None
unfolding due_of
settled commands p n input due = by_parts _ p.facts.losses_to_report p.facts.node_to_stop due
  where
    by_parts : (d : Due) (ks : List ℕ) (o : Option ℕ) → IsTurnDue p.facts (first_losses (falls_first d o) ks) n input → o ≡ None
    by_parts d (k ∷ ks) o due = absurd due
    by_parts d [] None due = refl
    by_parts d [] (Some m) due = absurd due

-- and where no loss is to be told
untold : (asked : List Command) (p : Past) (n : ℕ) (input : Input) → IsTurnDue p.facts (due_of asked p) n input → p.facts.losses_to_report ≡ []
unfolding due_of
untold asked p n input due = by_parts _ p.facts.losses_to_report due
  where
    by_parts : (d : Due) (ks : List ℕ) → IsTurnDue p.facts (first_losses d ks) n input → ks ≡ []
    by_parts d (k ∷ ks) due = absurd due
    by_parts d [] due = refl

-- the records of a turn's node count as many starts as before
boots_stay : (lists : List (List RedoRecord)) (n : ℕ) (wrote : Option RedoRecord) → boots (unwrap_or (numbered lists n) [] ++ option_to_list wrote) ≡ boots (unwrap_or (numbered lists n) [])
    → map boots (set_numbered lists n (unwrap_or (numbered lists n) [] ++ option_to_list wrote)) ≡ map boots lists
boots_stay lists zero wrote same = refl
boots_stay lists (suc i) wrote same = by lists i same
  where
    by : (xs : List (List RedoRecord)) (j : ℕ) → boots (unwrap_or (slice_get xs j) [] ++ option_to_list wrote) ≡ boots (unwrap_or (slice_get xs j) [])
        → map boots (slice_set xs j (unwrap_or (slice_get xs j) [] ++ option_to_list wrote)) ≡ map boots xs
    by [] j same = refl
    by (x ∷ xs) zero same = ap (λ (b : ℕ). b ∷ map boots xs) same
    by (x ∷ xs) (suc j) same = ap (λ (bs : List ℕ). boots x ∷ bs) (by xs j same)

-- What a turn leaves of the world beside its sites.
pub record Turns (k : NodeState) (u : Turn) (o : TurnOutput) (w v : World) : Type 0 where
  pub running : v.running ≡ w.running
  pub to_stop : v.to_stop ≡ to_stop_after u
  pub boots : v.boots.items ≡ w.boots.items
  pub shown : v.shown ≡ w.shown
  pub net : v.net ≡ sent_on (taken w.net u.took) u.sent
  pub losses : v.losses.items ≡ lost_at_once (taken w.net u.took) u.sent
  pub run_report : v.run_report ≡ report_turned w.running (Some k) w.run_report u (Some o)
  pub slots : length v.slots.items ≡ length w.slots.items
  pub others : (m : ℕ) → u.node ≢ m → numbered v.slots.items m ≡ numbered w.slots.items m

-- The site of the node after its turn.
pub record HasTurned (place : Place) (keeps : Option NodeState) (rs : List RedoRecord) (slot : NodeSlot) : Type 0 where
  pub kept : site_kept slot ≡ keeps
  pub runs : RunsAt place slot
  pub holds : HoldRecords rs (bytes_of (site_disk slot))
  pub starts : CanBeStarted place.undo bytes_of images_of (site_disk slot)

module _ (w v : World) (begun : Begun) (input : Input) (k : NodeState) (by : Cut_by) (under : TurnIsUnderWay begun input k w by) (u : Turn) where
  abbrev p : Past
  p = past_of w.trace

  abbrev place : Place
  place = place_at w.trace.places begun.node

  abbrev o : TurnOutput
  o = turn_of place k input

  module _ (is : turn_by begun.node input begun.took o by ≡ happenings.Turn u) (pushed : IsPushed w.trace v.trace (happenings.Turn u)) (node : u.node ≡ begun.node) (input_is : u.input ≡ input)
      (wrote : boots (records_at p.facts u.node ++ option_to_list u.wrote) ≡ boots (records_at p.facts u.node)) (turns : Turns k u o w v)
      (own : (slot : NodeSlot) → numbered v.slots.items u.node ≡ Some slot → HasTurned (place_at w.trace.places u.node) (kept_after u.cut (Some o)) (records_at p.facts u.node ++ option_to_list u.wrote) slot) where
    abbrev q : Past
    q = record { facts = facts_turned p.facts u (Some o); run_report = report_turned p.facts.command (Some k) p.run_report u (Some o) }

    up : node_at p.facts u.node ≡ Some k
    up = ap (node_at p.facts) node ∙ under.up

    outcome_is : outcome_at w.trace.places p.facts u ≡ Some o
    outcome_is =
        ap (λ (x : Option NodeState). served (place_at w.trace.places u.node) u.input x) up
        ∙ (ap (λ (n : ℕ). Some (turn_of (place_at w.trace.places n) k u.input)) node ∙ ap (λ (x : Input). Some (turn_of place k x)) input_is)

    next_is : next w.trace.places w.trace.asked p (happenings.Turn u) ≡ q
    unfolding next
    next_is =
        ap (λ (x : Option TurnOutput). turned p u x) outcome_is
        ∙ ap (λ (x : Option NodeState). record { facts = facts_turned p.facts u (Some o); run_report = report_turned p.facts.command x p.run_report u (Some o) }) up

    due_next : IsDueNext w.trace (happenings.Turn u)
    due_next = turn_comes_next w.trace.places p w.trace.asked begun.node input begun.took k by under.due under.took under.up under.cut ∙ ap (λ (h : Happening). Some h) is

    stays_upright : q.run_report.start_to_stop ≡ None
    stays_upright = turn_upright p.facts.command k p.run_report u o ∙ under.upright

    up_is : (m : ℕ) → up_at q m ≡ node_at q.facts m
    up_is m = ap (λ (x : Option ℕ). if has_to_fall x m then None else node_at q.facts m) stays_upright

    elsewhere : (m : ℕ) → u.node ≢ m → SameAt p q m
    elsewhere m other = record {
      kept = up_is m
          ∙ (ap flat (set_leaves p.facts.nodes u.node m (kept_after u.cut (Some o)) other) ∙ sym (ap (λ (x : Option ℕ). if has_to_fall x m then None else node_at p.facts m) under.upright));
      records = ap (λ (x : Option (List RedoRecord)). unwrap_or x []) (set_leaves p.facts.records u.node m (records_at p.facts u.node ++ option_to_list u.wrote) other);
    }

    own_is : (slot : NodeSlot) → numbered v.slots.items u.node ≡ Some slot → SiteIs w.trace.places q u.node slot
    own_is slot there =
        let has : HasTurned (place_at w.trace.places u.node) (kept_after u.cut (Some o)) (records_at p.facts u.node ++ option_to_list u.wrote) slot = own slot there in
        let node_there = there_too v.slots.items p.facts.nodes u.node slot (turns.slots ∙ (under.counted.slots ∙ sym under.counted.nodes)) there in
        let records_there = there_too v.slots.items p.facts.records u.node slot (turns.slots ∙ (under.counted.slots ∙ sym under.counted.records)) there in
        record {
          kept = has.kept ∙ sym (up_is u.node ∙ ap flat (set_found p.facts.nodes u.node node_there.0 (kept_after u.cut (Some o)) node_there.1));
          runs = has.runs;
          holds = subst (λ (rs : List RedoRecord). HoldRecords rs (bytes_of (site_disk slot)))
              (sym (ap (λ (x : Option (List RedoRecord)). unwrap_or x []) (set_found p.facts.records u.node records_there.0 (records_at p.facts u.node ++ option_to_list u.wrote) records_there.1))) has.holds;
          starts = has.starts;
        }

    others_are : OtherSitesAre u.node w.trace.places q v.slots.items
    others_are m slot other there =
        others_stay w.trace.places p q u.node elsewhere w.slots.items (λ x y not at. under.others x y (λ same. not (node ∙ same)) at) m slot other (sym (turns.others m other) ∙ there)

    leaves : Leaves w v q
    leaves = record {
      parts = record {
        running = turns.running ∙ under.parts.running;
        net = turns.net ∙ ap (λ (net : Net). sent_on (taken net u.took) u.sent) under.parts.net;
        losses = turns.losses ∙ ap (λ (net : Net). lost_at_once (taken net u.took) u.sent) under.parts.net;
        to_stop = turns.to_stop;
        boots = turns.boots ∙ (under.parts.boots ∙ sym (boots_stay p.facts.records u.node u.wrote wrote));
        run_report = turns.run_report
            ∙ (ap (λ (running : ℕ). report_turned running (Some k) w.run_report u (Some o)) under.parts.running ∙ ap (λ (t : RunReport). report_turned p.facts.command (Some k) t u (Some o)) under.parts.run_report);
      };
      count = turns.slots;
      nodes = set_length p.facts.nodes u.node (kept_after u.cut (Some o));
      records = set_length p.facts.records u.node (records_at p.facts u.node ++ option_to_list u.wrote);
      slots = own_and_others w.trace.places q u.node v.slots.items own_is others_are;
    }

    pub turn_moves : StepsOn w v
    turn_moves =
        let stands : Stands w = record { script = under.script; counted = under.counted; shown = under.shown } in
        steps_on w v (happenings.Turn u) stands due_next pushed (shown_on w v (happenings.Turn u) stands due_next pushed (λ c same. absurd cc) turns.shown)
        (subst (λ (x : Past). Leaves w v x) (sym next_is) leaves) (ap (λ (x : Past). x.run_report.start_to_stop) next_is ∙ stays_upright)

    -- the orders on the disks
    cut_by_is : cut_by p.run_report u.node k u.input o ≡ by
    cut_by_is = ap (λ (n : ℕ). cut_by p.run_report n k u.input o) node ∙ (ap (λ (x : Input). cut_by p.run_report begun.node k x o) input_is ∙ under.cut)

    orders_then : (m : ℕ) → orders_at q.run_report m ≡ orders_at (cut_appends p.run_report u.node (is_some o.wrote) by) m
    orders_then m =
        ap (λ (ds : List DiskOrders). unwrap_or (numbered ds m) no_orders) (turn_orders p.facts.command k p.run_report u o)
        ∙ ap (λ (c : Cut_by). orders_at (cut_appends p.run_report u.node (is_some o.wrote) c) m) cut_by_is

    pub turn_orders_are : ((slot : NodeSlot) → numbered v.slots.items u.node ≡ Some slot → HasOrders (cut_orders (is_some o.wrote) by (orders_at p.run_report u.node)) (site_disk slot)) → OrdersAre v
    turn_orders_are own_orders m slot there =
        subst (λ (x : Past). HasOrders (orders_at x.run_report m) (site_disk slot)) (sym (pushed.past ∙ next_is)) (subst (λ (d : DiskOrders). HasOrders d (site_disk slot)) (sym (orders_then m)) (by_node (same_or u.node m)))
      where
        by_node : (u.node ≡ m) ⊎ (u.node ≢ m) → HasOrders (orders_at (cut_appends p.run_report u.node (is_some o.wrote) by) m) (site_disk slot)
        by_node (inl same) =
            subst (λ (i : ℕ). HasOrders (orders_at (cut_appends p.run_report u.node (is_some o.wrote) by) i) (site_disk slot)) same
            (subst (λ (d : DiskOrders). HasOrders d (site_disk slot)) (sym (cut_here p.run_report u.node (is_some o.wrote) by)) (own_orders slot (subst (λ (i : ℕ). numbered v.slots.items i ≡ Some slot) (sym same) there)))
        by_node (inr other) =
            subst (λ (d : DiskOrders). HasOrders d (site_disk slot)) (sym (cut_elsewhere p.run_report u.node m (is_some o.wrote) by other))
            (under.orders m slot (λ same. other (node ∙ same)) (sym (turns.others m other) ∙ there))

  -- no node has to stop before a turn
  pub none_to_stop : w.to_stop ≡ None
  none_to_stop = under.parts.to_stop ∙ settled w.trace.asked p begun.node input under.due

-- a delivery that is one of few is counted
pub few_deliveries : (took : Option Took) (n : ℕ) → n ≤ happening_limit → IfSome took (λ t. n < 2 ^ 32 - 1)
few_deliveries None n few = tt
few_deliveries (Some t) n few = omega (arith, few)

module _ (w : World) (begun : Begun) (input : Input) (k : NodeState) (by : Cut_by) (under : TurnIsUnderWay begun input k w by) where
  -- the node of a turn is there
  pub node_there : IsNode (length w.slots.items) begun.node
  node_there =
      let nodes = (past_of w.trace).facts.nodes in
      let range = range_of nodes begun.node (Some k) (flat_some (numbered nodes begun.node) k under.up) in
      (range.0, subst (λ (count : ℕ). begun.node ≤ count) (under.counted.nodes ∙ sym under.counted.slots) range.1)

  -- and no loss is to be told
  pub none_to_tell : w.losses.items ≡ []
  none_to_tell = under.parts.losses ∙ untold w.trace.asked (past_of w.trace) begun.node input under.due

  -- its delivery is one of few
  pub delivery_counts : IfSome begun.took (λ t. w.run_report.deliveries < 2 ^ 32 - 1)
  delivery_counts = few_deliveries begun.took w.run_report.deliveries (subst (λ (t : RunReport). t.deliveries ≤ happening_limit) (sym under.parts.run_report) under.few)

-- the session that calls
pub caller_of : (k : NodeState) (input : Input) (s : Session) → CallerOf k input s → (session : ℕ) (statement : Option Stmt) → input ≡ inputs.Call session statement → s ≡ session_at k.sessions session
caller_of k (inputs.Call x y) s is session statement same = let at : x ≡ session = cc in is ∙ ap (session_at k.sessions) at
caller_of k (inputs.GiveUp x) s is session statement same = absurd cc
caller_of k (inputs.Message m) s is session statement same = absurd cc
caller_of k inputs.Reco s is session statement same = absurd cc
caller_of k inputs.Checkpoint s is session statement same = absurd cc

-- messages with their bytes, and without them
pub without_bytes : (ms : List Msg) → map (λ (x : Mailed). x.msg) (map mailed ms) ≡ ms
without_bytes [] = refl
without_bytes (m ∷ ms) = ap (λ (xs : List Msg). m ∷ xs) (without_bytes ms)

-- a whole turn, by what its node told
pub whole_is : (n : ℕ) (input : Input) (took : Option Took) (o : TurnOutput) (wrote : Option RedoRecord) (sent : List Msg) → wrote ≡ o.wrote → sent ≡ o.sent
    → turn_by n input took o By_nothing ≡ happenings.Turn (record { node = n; input = input; took = took; wrote = wrote; sent = sent; cut = false })
whole_is n input took o wrote sent is are =
    ap (λ (x : Option RedoRecord). happenings.Turn (record { node = n; input = input; took = took; wrote = x; sent = o.sent; cut = false })) (sym is)
    ∙ ap (λ (xs : List Msg). happenings.Turn (record { node = n; input = input; took = took; wrote = wrote; sent = xs; cut = false })) (sym are)

-- a whole turn is the happening that comes next
pub whole_next : (w : World) (begun : Begun) (e : DurableTurn) (k : NodeState) → IsDuringAt begun e w k → (sent : List Msg) → sent ≡ (turn_of (place_at w.trace.places begun.node) k e.input).sent
    → IsDueNext w.trace (happenings.Turn (record { node = begun.node; input = e.input; took = begun.took; wrote = e.wrote; sent = sent; cut = false }))
whole_next w begun e k during sent are =
    let under = during.under_way in
    let out : TurnOutput = turn_of (place_at w.trace.places begun.node) k e.input in
    turn_comes_next w.trace.places (past_of w.trace) w.trace.asked begun.node e.input begun.took k By_nothing under.due under.took under.up under.cut
    ∙ ap (λ (h : Happening). Some h) (whole_is begun.node e.input begun.took out e.wrote sent during.tells.wrote are)

pub ruleset turn_steps = (turn_comes_next, cut_is)
