-- A node that is up takes the turn that is due: it is whole where the definitions of a run say so, and else cut by what they say.
use Rattle.std.proofs.Common.{◌≡◌, ◌++◌, ℕ, ◌&&◌, ◌||◌, not, Bool, true, false, true≢false, if◌then◌else◌, List, [], ◌∷◌, is_some, option_map, Option, Some, None, refl, ap, sym, subst, ◌∙◌, append-nil}
use Rattle.std.specs.Prelude.{IfSome}
use Rattle.std.specs.List.{AllByRecursion}
use Rattle.std.specs.Option.{option_to_list}
use Rattle.block_disk.specs.MemDisk.{DiskState}
use Rattle.block_disk.specs.Orders.{plan_of}
use Rattle.redo_log.specs.Plans.{CallsGoByPlan, append_calls}
use Rattle.record_log.specs.Held.{HoldRecords, with_record_if}
use Rattle.node_points.specs.Passing.{passes_as}
use Rattle.node_points.specs.declared.places.Passes.{Passes as PassesByNode}
use Rattle.node_rules.specs.Data.{BranchId, Input, Live, Msg, RedoRecord, Place}
use Rattle.node_rules.specs.Words.{same}
use Rattle.node_rules.specs.NodeState.{NodeState, TurnOutput, live_at}
use Rattle.node_rules.specs.Points.{Passes, Point, is_ready, passes, points_of, reaches, ready_points, sent_points}
use Rattle.node_points.specs.declared.point.Side.TheVariants as sides
use Rattle.node_rules.specs.Turn.{turn_of}
use Rattle.node_core.specs.Able.{MayTake}
use Rattle.node_disk.specs.declared.effects.DurableTurn.{DurableTurn}
use Rattle.node_disk.specs.declared.err.CutTurn.{CutTurn}
use Rattle.node_disk.specs.declared.err.CutAt.{CutAt}
use Rattle.node_disk.specs.declared.err.CutAt.TheVariants as cuts
use Rattle.node_disk.specs.declared.incoming.Incoming.{Incoming}
use Rattle.node_disk.specs.declared.node.Node.{Node}
use Rattle.node_disk.specs.Starts.{CanBeStarted}
use Rattle.node_disk.specs.declared.err.TurnErr.TheVariants as errs
use Rattle.node_disk.specs.Cuts.{CutByPlan, CutStands, CutStores, IsTried, Stops, stops}
use Rattle.redo_log.specs.Stands.{stands_by as stands_by_plan}
use Rattle.node_disk.specs.Effects.{Tells, TellsPasses, GoesUncut, ReachesNone, IsMailed}
use Rattle.node_disk.specs.Incoming.{IsReadAs}
use Rattle.node_disk.specs.OnDisk.{disk_of, kept_of, place_of, turn_calls, IsSpellable, HoldsNext}
use Rattle.run_rules.specs.Cuts.{Cut_by, By_nothing, By_point, By_strike, cut_append, cut_before, cut_by}
use Rattle.run_rules.specs.Disks.{DiskOrders, Strike, struck}
use Rattle.run_rules.specs.RunReport.{RunReport, orders_at}
use Rattle.world.specs.declared.slot.NodeSlot.{NodeSlot}
use Rattle.world.specs.declared.slot.NodeSlot.TheVariants.{Up, Down}
use Rattle.world_parts.specs.Orders.{HasOrders, OrdersLeft, cut_orders, orders_if}
use Rattle.world.specs.Served.{CanServe, HasFailed, HasServed, NodeFailed, NodeServed}
use Rattle.world.specs.NodeSlot.{RunsAt, bytes_of, images_of, site_disk, site_kept}
use Rattle.world.specs.Turns.{ReportsWholeTurn, stands_by, stood}
use Rattle.world.proofs.SlotLemmas.{same_of}
use Rattle.world_parts.proofs.PlanLemmas.{no_strike, one_strike, same_plan, spared}

-- ---- what cuts a turn

module _ (t : RunReport) (n : ℕ) where
  -- nothing, where no point is reached and no order strikes its append
  pub nothing_cuts : (wrote : Option RedoRecord) (x : Option Passes) → IfSome x (ReachesNone t.points) → IfSome wrote (λ r. struck 0 (orders_at t n) ≡ None) → cut_before t n wrote x ≡ By_nothing
  nothing_cuts None None reach spare = refl
  nothing_cuts (Some r) None reach spare = ap (λ (s : Option Strike). cut_append t None s) spare
  nothing_cuts None (Some x) reach spare = ap (λ (b : Bool). if b then By_point x.root x.before false else By_nothing) reach.before
  nothing_cuts (Some r) (Some x) reach spare =
      ap (λ (b : Bool). if b then By_point x.root x.before false else cut_append t (Some x) (struck 0 (orders_at t n))) reach.before
      ∙ (ap (λ (s : Option Strike). cut_append t (Some x) s) spare ∙ ap (λ (b : Bool). if b then By_point x.root x.after true else By_nothing) reach.after)

  -- a point before its record
  pub point_before : (wrote : Option RedoRecord) (x : Passes) → reaches t.points x.root x.before ≡ true → cut_before t n wrote (Some x) ≡ By_point x.root x.before false
  point_before None x reach = ap (λ (b : Bool). if b then By_point x.root x.before false else By_nothing) reach
  point_before (Some r) x reach = ap (λ (b : Bool). if b then By_point x.root x.before false else cut_append t (Some x) (struck 0 (orders_at t n))) reach

  -- an order that strikes its append
  pub strike_cuts : (r : RedoRecord) (x : Option Passes) (s : Strike) → IfSome x (λ y. reaches t.points y.root y.before ≡ false) → struck 0 (orders_at t n) ≡ Some s → cut_before t n (Some r) x ≡ By_strike s.stands
  strike_cuts r None s reach is = ap (λ (o : Option Strike). cut_append t None o) is
  strike_cuts r (Some x) s reach is =
      ap (λ (b : Bool). if b then By_point x.root x.before false else cut_append t (Some x) (struck 0 (orders_at t n))) reach ∙ ap (λ (o : Option Strike). cut_append t (Some x) o) is

  -- a point after its record
  pub point_after : (r : RedoRecord) (x : Passes) → reaches t.points x.root x.before ≡ false → struck 0 (orders_at t n) ≡ None → reaches t.points x.root x.after ≡ true
      → cut_before t n (Some r) (Some x) ≡ By_point x.root x.after true
  point_after r x not_before spare reach =
      ap (λ (b : Bool). if b then By_point x.root x.before false else cut_append t (Some x) (struck 0 (orders_at t n))) not_before
      ∙ (ap (λ (s : Option Strike). cut_append t (Some x) s) spare ∙ ap (λ (b : Bool). if b then By_point x.root x.after true else By_nothing) reach)

-- ---- a node that can take what comes

module _ (place : Place) (k : NodeState) (incoming : Incoming) where
  -- it can, where one that keeps this can
  pub can_serve : (slot : NodeSlot) → RunsAt place slot → site_kept slot ≡ Some k → (input : Input) × IsReadAs incoming input
      → ((input : Input) → IsReadAs incoming input → MayTake place k input × IsSpellable (turn_of place k input)) → CanServe slot incoming
  can_serve (Up node) runs kept reads takes =
      let same : kept_of node ≡ k = same_of (kept_of node) k kept in
      record {
        running = runs.0;
        reads = reads;
        takes = λ input read. subst (λ (x : Place). MayTake x (kept_of node) input) (sym runs.1) (subst (λ (x : NodeState). MayTake place x input) (sym same) (takes input read).0);
        spellable = λ input read. subst (λ (x : Place). IsSpellable (turn_of x (kept_of node) input)) (sym runs.1) (subst (λ (x : NodeState). IsSpellable (turn_of place x input)) (sym same) (takes input read).1);
      }
  can_serve (Down disk) runs kept reads takes = absurd cc

-- ---- what a turn leaves

-- the cut of a turn that passes these places
cut_by_places : (t : RunReport) (n : ℕ) (k : NodeState) (input : Input) (o : TurnOutput) (wrote : Option RedoRecord) (x : Option Passes) (by : Cut_by) → o.wrote ≡ wrote → passes k input o ≡ x → cut_before t n wrote x ≡ by → cut_by t n k input o ≡ by
unfolding cut_by
cut_by_places t n k input o wrote x by is are cut = ap (λ (r : Option RedoRecord). cut_before t n r (passes k input o)) is ∙ (ap (λ (y : Option Passes). cut_before t n wrote y) are ∙ cut)

-- the records of a disk that grew by one, or by none
holds_next : (rs : List RedoRecord) (wrote : Option RedoRecord) (before after : List ℕ) → HoldsNext wrote before after → HoldRecords rs before → HoldRecords (rs ++ option_to_list wrote) after
holds_next rs None before after stored holds = subst (λ (xs : List RedoRecord). HoldRecords xs after) (sym (append-nil rs)) (subst (λ (bytes : List ℕ). HoldRecords rs bytes) (sym stored) holds)
holds_next rs (Some r) before after stored holds = stored rs holds

module _ (d : DiskOrders) (before after : DiskState) (has : HasOrders d before) where
  -- no order strikes the append of a whole turn
  spares : (wrote : Option RedoRecord) → CallsGoByPlan (turn_calls wrote) (Some (plan_of before.orders)) (Some (plan_of after.orders)) false → IfSome wrote (λ r. struck 0 d ≡ None)
  spares None goes = tt
  spares (Some r) goes = no_strike d before after has goes

  -- and the orders are counted
  counts : (wrote : Option RedoRecord) → CallsGoByPlan (turn_calls wrote) (Some (plan_of before.orders)) (Some (plan_of after.orders)) false → HasOrders (orders_if (is_some wrote) d) after
  counts None goes = same_plan d before after has goes.0
  counts (Some r) goes = spared d before after has goes

-- a record that stands, or not
stood_if : (b : Bool) (r : RedoRecord) (rs : List RedoRecord) (bytes : List ℕ) → HoldRecords (with_record_if b rs r) bytes → HoldRecords (rs ++ option_to_list (stood b (Some r))) bytes
stood_if true r rs bytes holds = holds
stood_if false r rs bytes holds = subst (λ (xs : List RedoRecord). HoldRecords xs bytes) (sym (append-nil rs)) holds

-- no point is reached before the record
none_before : (points : List Point) (ps : Option PassesByNode) → stops points sides.Before ps ≡ false → IfSome (option_map passes_as ps) (λ y. reaches points y.root y.before ≡ false)
none_before points None none = tt
none_before points (Some q) none = none

-- ---- a turn without a record passes no place after it

none_armed : (root : BranchId) (points : List Point) → reaches points root [] ≡ false
none_armed root [] = refl
none_armed root (x ∷ xs) = by (same x.root root) (not x.reached) (none_armed root xs)
  where
    by : (a b : Bool) → reaches xs root [] ≡ false → ((a && (b && false)) || reaches xs root []) ≡ false
    by true true rest = rest
    by true false rest = rest
    by false b rest = rest

none_ready : (points : List Point) (l : Option Live) (x : Passes) → ready_points l ≡ Some x → reaches points x.root x.after ≡ true → ⊥
none_ready points None x is reached = absurd cc
none_ready points (Some l) x is reached =
    let none : x.after ≡ [] = sym (ap (λ (y : Option Passes). after_of y) is) in
    absurd (true≢false (sym reached ∙ (ap (λ (ns : List ℕ). reaches points x.root ns) none ∙ none_armed x.root points)))
  where
    after_of : Option Passes → List ℕ
    after_of None = []
    after_of (Some y) = y.after

none_sent : (points : List Point) (k : NodeState) (sent : List Msg) (x : Passes) → sent_points k sent ≡ Some x → reaches points x.root x.after ≡ true → ⊥
none_sent points k [] x is reached = absurd cc
none_sent points k (m ∷ ms) x is reached = by (is_ready m.kind) is
  where
    by : (b : Bool) → (if b then ready_points (live_at k m.from) else None) ≡ Some x → ⊥
    by true is_so = none_ready points (live_at k m.from) x is_so reached
    by false is_so = absurd cc

none_after : (points : List Point) (k : NodeState) (input : Input) (o : TurnOutput) (x : Passes) → o.wrote ≡ None → passes k input o ≡ Some x → reaches points x.root x.after ≡ true → ⊥
unfolding passes
none_after points k input o x none is reached = none_sent points k o.sent x (sym (ap (λ (w : Option RedoRecord). points_of k input o.sent w) none) ∙ is) reached

-- What a whole turn was, of a node that kept this.
pub record WasWhole (t : RunReport) (n : ℕ) (place : Place) (k : NodeState) (incoming : Incoming) (rs : List RedoRecord) (e : DurableTurn) (slot : NodeSlot) : Type 0 where
  pub input : IsReadAs incoming e.input
  pub tells : ReportsWholeTurn (turn_of place k e.input) e
  pub passed : TellsPasses k (turn_of place k e.input) e
  pub mailed : AllByRecursion IsMailed e.sent
  pub cut : cut_by t n k e.input (turn_of place k e.input) ≡ By_nothing
  pub kept : site_kept slot ≡ Some (turn_of place k e.input).after
  pub runs : RunsAt place slot
  pub holds : HoldRecords (rs ++ option_to_list (turn_of place k e.input).wrote) (bytes_of (site_disk slot))
  pub starts : CanBeStarted place.undo bytes_of images_of (site_disk slot)
  pub orders : HasOrders (orders_if (is_some (turn_of place k e.input).wrote) (orders_at t n)) (site_disk slot)

-- What a cut turn was.
pub record WasCut (t : RunReport) (n : ℕ) (place : Place) (k : NodeState) (incoming : Incoming) (rs : List RedoRecord) (c : CutTurn) (slot : NodeSlot) (by : Cut_by) : Type 0 where
  pub input : IsReadAs incoming c.input
  pub tried : c.tried ≡ (turn_of place k c.input).wrote
  pub passed : option_map passes_as c.passes ≡ passes k c.input (turn_of place k c.input)
  pub cut : cut_by t n k c.input (turn_of place k c.input) ≡ by
  pub is_cut : by ≡ By_nothing → ⊥
  pub holds : HoldRecords (rs ++ option_to_list (stood (stands_by by) (turn_of place k c.input).wrote)) (bytes_of (site_disk slot))
  pub starts : CanBeStarted place.undo bytes_of images_of (site_disk slot)
  pub orders : OrdersLeft (cut_orders (is_some (turn_of place k c.input).wrote) by (orders_at t n)) (site_disk slot).orders

module _ (t : RunReport) (n : ℕ) (place : Place) (k : NodeState) (incoming : Incoming) (rs : List RedoRecord) (points : List Point) (are : points ≡ t.points) where
  module _ (before after : Node DiskState) (at : place_of before ≡ place) (same : kept_of before ≡ k) (holds : HoldRecords rs (bytes_of (disk_of before))) (orders : HasOrders (orders_at t n) (disk_of before)) where
    outcome_is : (input : Input) → turn_of (place_of before) (kept_of before) input ≡ turn_of place k input
    outcome_is input = ap (λ (x : Place). turn_of x (kept_of before) input) at ∙ ap (λ (x : NodeState). turn_of place x input) same

    starts_at : CanBeStarted (place_of before).undo bytes_of images_of (disk_of after) → CanBeStarted place.undo bytes_of images_of (disk_of after)
    starts_at starts = subst (λ (x : Place). CanBeStarted x.undo bytes_of images_of (disk_of after)) at starts

    passes_are : (input : Input) → passes (kept_of before) input (turn_of (place_of before) (kept_of before) input) ≡ passes k input (turn_of place k input)
    passes_are input = ap (λ (x : NodeState). passes x input (turn_of (place_of before) (kept_of before) input)) same ∙ ap (λ (x : TurnOutput). passes k input x) (outcome_is input)

    node_whole : (e : DurableTurn) → NodeServed before after incoming points e → WasWhole t n place k incoming rs e (Up after)
    node_whole e s =
        let o : TurnOutput = turn_of place k e.input in
        let tells = subst (λ (x : TurnOutput). Tells x (kept_of after) e) (outcome_is e.input) s.tells in
        let passed = s.passed ∙ passes_are e.input in
        record {
          input = s.input;
          tells = record { wrote = tells.wrote; sent = tells.sent; ended = tells.ended };
          passed = passed;
          mailed = s.mailed;
          cut = cut_by_places t n k e.input o e.wrote (option_map passes_as e.passes) By_nothing (sym tells.wrote) (sym passed)
              (nothing_cuts t n e.wrote (option_map passes_as e.passes) (subst (λ (xs : List Point). GoesUncut xs e.passes) are s.uncut) (spares (orders_at t n) (disk_of before) (disk_of after) orders e.wrote s.goes));
          kept = ap (λ (x : NodeState). Some x) tells.after;
          runs = (s.running, s.place ∙ at);
          holds = subst (λ (r : Option RedoRecord). HoldRecords (rs ++ option_to_list r) (bytes_of (disk_of after))) tells.wrote (holds_next rs e.wrote (bytes_of (disk_of before)) (bytes_of (disk_of after)) s.stored holds);
          starts = starts_at s.starts;
          orders = subst (λ (r : Option RedoRecord). HasOrders (orders_if (is_some r) (orders_at t n)) (disk_of after)) tells.wrote (counts (orders_at t n) (disk_of before) (disk_of after) orders e.wrote s.goes);
        }

    module _ (c : CutTurn) (input : IsReadAs incoming c.input) (tried : c.tried ≡ (turn_of place k c.input).wrote) (passed : option_map passes_as c.passes ≡ passes k c.input (turn_of place k c.input))
        (starts : CanBeStarted place.undo bytes_of images_of (disk_of after)) where
      abbrev o : TurnOutput
      o = turn_of place k c.input

      abbrev Was : Cut_by → Type 0
      Was by = WasCut t n place k incoming rs c (Up after) by

      -- by a point before its record
      cut_before_it : (ps : Option PassesByNode) → option_map passes_as ps ≡ passes k c.input o → stops t.points sides.Before ps ≡ true → bytes_of (disk_of after) ≡ bytes_of (disk_of before)
          → Some (plan_of (disk_of after).orders) ≡ Some (plan_of (disk_of before).orders) → (by : Cut_by) × Was by
      cut_before_it None is reached content plan = absurd cc
      cut_before_it (Some q) is reached content plan = (
        By_point (passes_as q).root (passes_as q).before false,
        record {
          input = input;
          tried = tried;
          passed = passed;
          cut = cut_by_places t n k c.input o o.wrote (Some (passes_as q)) _ refl (sym is) (point_before t n o.wrote (passes_as q) reached);
          is_cut = λ same_cut. absurd cc;
          holds = subst (λ (xs : List RedoRecord). HoldRecords xs (bytes_of (disk_of after))) (sym (append-nil rs)) (subst (λ (bytes : List ℕ). HoldRecords rs bytes) (sym content) holds);
          starts = starts;
          orders = (same_plan (orders_at t n) (disk_of before) (disk_of after) orders plan).left;
        },
      )

      -- by an order that strikes its append
      cut_in_append : (w : Option RedoRecord) → c.tried ≡ w → stops t.points sides.Before c.passes ≡ false → is_some w ≡ true
          → CallsGoByPlan append_calls (Some (plan_of (disk_of before).orders)) (Some (plan_of (disk_of after).orders)) true
          → CutStands cuts.InAppend w (Some (plan_of (disk_of before).orders)) (bytes_of (disk_of before)) (bytes_of (disk_of after)) → (by : Cut_by) × Was by
      cut_in_append None is none some goes stands = absurd cc
      cut_in_append (Some r) is none some goes stands =
          let strike = one_strike (orders_at t n) (disk_of before) (disk_of after) orders goes in
          let s : Strike = strike.0 in
          let wrote : o.wrote ≡ Some r = sym tried ∙ is in (
            By_strike s.stands,
            record {
              input = input;
              tried = tried;
              passed = passed;
              cut = cut_by_places t n k c.input o (Some r) (option_map passes_as c.passes) _ wrote (sym passed) (strike_cuts t n r (option_map passes_as c.passes) s (none_before t.points c.passes none) strike.1);
              is_cut = λ same_cut. absurd cc;
              holds = subst (λ (x : Option RedoRecord). HoldRecords (rs ++ option_to_list (stood s.stands x)) (bytes_of (disk_of after))) (sym wrote)
                  (subst (λ (b : Bool). HoldRecords (rs ++ option_to_list (stood b (Some r))) (bytes_of (disk_of after))) (sym strike.2)
                  (stood_if (stands_by_plan (plan_of (disk_of before).orders)) r rs (bytes_of (disk_of after)) (stands rs holds)));
              starts = starts;
              orders = subst (λ (x : Option RedoRecord). OrdersLeft (orders_if (is_some x) (orders_at t n)) (disk_of after).orders) (sym wrote) strike.3;
            },
          )

      -- by a point after it
      cut_after_it : (ps : Option PassesByNode) (w : Option RedoRecord) → option_map passes_as ps ≡ passes k c.input o → o.wrote ≡ w → stops t.points sides.Before ps ≡ false → stops t.points sides.After ps ≡ true
          → HoldsNext c.tried (bytes_of (disk_of before)) (bytes_of (disk_of after)) → CallsGoByPlan (turn_calls c.tried) (Some (plan_of (disk_of before).orders)) (Some (plan_of (disk_of after).orders)) false → (by : Cut_by) × Was by
      cut_after_it None w is wrote none reached stored goes = absurd cc
      cut_after_it (Some q) None is wrote none reached stored goes = absurd (none_after t.points k c.input o (passes_as q) wrote (sym is) reached)
      cut_after_it (Some q) (Some r) is wrote none reached stored goes =
          let made = subst (λ (x : Option RedoRecord). CallsGoByPlan (turn_calls x) (Some (plan_of (disk_of before).orders)) (Some (plan_of (disk_of after).orders)) false) (tried ∙ wrote) goes in (
            By_point (passes_as q).root (passes_as q).after true,
            record {
              input = input;
              tried = tried;
              passed = passed;
              cut = cut_by_places t n k c.input o (Some r) (Some (passes_as q)) _ wrote (sym is) (point_after t n r (passes_as q) none (no_strike (orders_at t n) (disk_of before) (disk_of after) orders made) reached);
              is_cut = λ same_cut. absurd cc;
              holds = subst (λ (x : Option RedoRecord). HoldRecords (rs ++ option_to_list x) (bytes_of (disk_of after))) tried (holds_next rs c.tried (bytes_of (disk_of before)) (bytes_of (disk_of after)) stored holds);
              starts = starts;
              orders = (spared (orders_at t n) (disk_of before) (disk_of after) orders made).left;
            },
          )

      by_place : (place_cut : CutAt) → Stops t.points place_cut c.passes → IsTried place_cut c.tried → CutStores place_cut c.tried (bytes_of (disk_of before)) (bytes_of (disk_of after))
          → CutByPlan place_cut c.tried (Some (plan_of (disk_of before).orders)) (Some (plan_of (disk_of after).orders))
          → CutStands place_cut c.tried (Some (plan_of (disk_of before).orders)) (bytes_of (disk_of before)) (bytes_of (disk_of after)) → (by : Cut_by) × Was by
      by_place cuts.BeforeRecord reached some stored goes stands = cut_before_it c.passes passed reached stored goes
      by_place cuts.InAppend reached some stored goes stands = cut_in_append c.tried refl reached some goes stands
      by_place cuts.AfterRecord reached some stored goes stands = cut_after_it c.passes o.wrote passed refl reached.0 reached.1 stored goes

    node_cut : (c : CutTurn) → NodeFailed before after incoming points (errs.Cut c) → (by : Cut_by) × WasCut t n place k incoming rs c (Up after) by
    node_cut c f =
        by_place c f.is_cut.input (f.is_cut.tried ∙ ap (λ (x : TurnOutput). x.wrote) (outcome_is c.input)) (f.is_cut.passed ∙ passes_are c.input) (starts_at f.starts) c.at
        (subst (λ (xs : List Point). Stops xs c.at c.passes) are f.stops) f.tried f.stored f.goes f.stands

  -- a whole turn of a site's node
  pub site_whole : (old new : NodeSlot) (e : DurableTurn) → RunsAt place old → site_kept old ≡ Some k → HoldRecords rs (bytes_of (site_disk old)) → HasOrders (orders_at t n) (site_disk old) → HasServed old new incoming points e
      → WasWhole t n place k incoming rs e new
  site_whole (Up before) (Up after) e runs kept holds orders served = node_whole before after runs.1 (same_of (kept_of before) k kept) holds orders e served
  site_whole (Up before) (Down disk) e runs kept holds orders served = absurd served
  site_whole (Down disk) new e runs kept holds orders served = absurd cc

  -- and a cut one
  pub site_cut : (old new : NodeSlot) (c : CutTurn) → RunsAt place old → site_kept old ≡ Some k → HoldRecords rs (bytes_of (site_disk old)) → HasOrders (orders_at t n) (site_disk old) → HasFailed old new incoming points (errs.Cut c)
      → (by : Cut_by) × WasCut t n place k incoming rs c new by
  site_cut (Up before) (Up after) c runs kept holds orders failed = node_cut before after runs.1 (same_of (kept_of before) k kept) holds orders c failed
  site_cut (Up before) (Down disk) c runs kept holds orders failed = absurd failed
  site_cut (Down disk) new c runs kept holds orders failed = absurd cc
