-- In every lawful run calls between live branches and their children go in turn.
use Rattle.std.proofs.Common.{◌≡◌, ◌≢◌, ℕ, ◌+◌, ◌<◌, ◌≤◌, Bool, true, false, List, [], ◌∷◌, ◌++◌, map, Option, Some, None, inl, inr, refl, sym, ap, subst, ◌∙◌, arith, append-nil}
use Rattle.std.specs.Prelude.{IfSome, nat_lt}
use Rattle.std.proofs.lemmas.Bool.Decides.{nat_tests}
use Rattle.tran_ids.proofs.ListedLemmas.{item_is}
use Rattle.tran_ids.proofs.NumberedLemmas.{set_or_before}
use Rattle.session_tree.specs.Live.{children_of}
use Rattle.node_rules.specs.Data.{BranchId, Kind, Live, Msg, Post, Place, Input, RedoRecord}
use Rattle.node_rules.specs.Data.inputs
use Rattle.node_rules.specs.Data.kinds
use Rattle.node_rules.specs.declared.work.Work.{Work}
use Rattle.node_rules.specs.Words.{numbered, set_numbered, item_at}
use Rattle.node_rules.specs.Inputs.{Came}
use Rattle.node_rules.specs.NodeState.{NodeState, Branch, live_id, live_at, branch_at}
use Rattle.node_rules.specs.Sessions.{session_at}
use Rattle.node_rules.specs.Turn.{turn_of, start_of, made, heard}
use Rattle.node_rules.proofs.Steps.{Step}
use Rattle.node_rules.proofs.StandLemmas.{live_so}
use Rattle.agreement.specs.Events.{Event}
use Rattle.run_rules.specs.Data.{Took, Turn, Happening, Command}
use Rattle.run_rules.specs.Data.happenings
use Rattle.run_rules.specs.Facts.{Facts, first_facts, place_at, flat, node_at, kept_after, with_boot, facts_after, facts_of}
use Rattle.run_rules.specs.Lawful.{IsPlace, MayTurn, MayHappen, Comes, IsOwed, IsLawful, History, IsLawfulRun, facts_at}
use Rattle.run_base_laws.specs.RunEvents.{events_after}
use Rattle.run_rules.specs.Births.{Born, births_after, births_of, born_at}
use Rattle.run_base_laws.specs.BirthLaws.{Began, LiveIs, NamesAre, GoesSo}
use Rattle.run_base_laws.specs.InTurnLaws.{post_of, said_in, exec_number, reply_number, newest_exec, newest_reply, call_at, NeedsNoRollback, CallsAreAnswered, BranchesCallInTurn, EdgesFit}
use Rattle.run_rules.proofs.ListLemmas.{all_weaker}
use Rattle.run_base_laws.proofs.OwnLemmas.{Own, all_found}
use Rattle.run_base_laws.proofs.LawfulLemmas.{serves}
use Rattle.run_rules.proofs.AtNodeLemmas.{turn_here, turn_elsewhere}
use Rattle.run_base_laws.proofs.TurnEventLemmas.{cases_nat, number_is}
use Rattle.run_base_laws.proofs.EventsStandLemmas.{first_node, node_so, owned_so}
use Rattle.run_base_laws.proofs.BirthLemmas.{news_of}
use Rattle.run_base_laws.proofs.BirthsStandLemmas.{came_so, all_unborn}
use Rattle.run_base_laws.proofs.BirthRunLemmas.{StandBorn, stand_born_on, stand_born_first, nodes_name_the_born}
use Rattle.run_base_laws.proofs.NeighborLemmas.{News}
use Rattle.node_rules.specs.LiveBranches.{EachLive}
use Rattle.node_rules.proofs.LiveLemmas.{each_same, none_live, branch_parts}
use Rattle.node_rules.proofs.HeardLemmas.{sessions_heard}
use Rattle.run_base_laws.proofs.RestLemmas.{RootIs, live_root, free_waits}
use Rattle.run_base_laws.proofs.RestRunLemmas.{NodeRests, heard_rests, free_by, RootsStand, turned, roots_stand_on, first_rests}
use Rattle.run_base_laws.proofs.CodeLemmas.{AllNeed, codes_on}
use Rattle.run_base_laws.proofs.CallTurnLemmas.{Silent, Answered, InTurn, stays_in_turn, in_turn_goes}
use Rattle.run_base_laws.proofs.InTurnLemmas as turns
use Rattle.run_base_laws.proofs.KidLemmas.{edge_of, parent_in, parent_of, child_edge, child_parent, kids_of, above_of, child_of}
use Rattle.run_base_laws.proofs.InTurnStepLemmas.{NewBorn, Granted, turns_on}
use Rattle.run_base_laws.proofs.SaidPostLemmas.{posts_back, posts_of, said_after, execs_are_low, replies_are_low, unborn_silent}
use Rattle.run_base_laws.proofs.OneTurn.{one_turn}

-- ---- what stands

-- the calls of a node's live branches are in turn
abbrev pub CallsOf : List Post → NodeState → Live → Work → Type 0
CallsOf said k l w = InTurn (NeedsNoRollback k l) said l.me l.parent (children_of l) w

abbrev pub NodeCalls : List Post → NodeState → Type 0
NodeCalls said k = EachLive (CallsOf said k) k.lives k.works

-- Calls are in turn everywhere.
pub record CallsStand (f : Facts) : Type 0 where
  pub all : Answered (said_in f)
  pub nodes : (n : ℕ) → IfSome (node_at f n) (NodeCalls (said_in f))

-- ---- a node that hears

pub heard_calls : (P : Live → Work → Type 0) (k : NodeState) (input : Input) → EachLive P k.lives k.works → EachLive P (heard k input).lives (heard k input).works
heard_calls P k (inputs.Message m) now = now
heard_calls P k (inputs.Call n s) now = now
heard_calls P k (inputs.GiveUp n) now = now
heard_calls P k inputs.Reco now = now
heard_calls P k inputs.Checkpoint now = now

-- what comes is for a branch of the node
message_here : (node : ℕ) (m : Msg) (from to : BranchId) (scn : ℕ) (kind : Kind) → m.to.node ≡ node → inputs.Message m ≡ inputs.Message (record { from = from; to = to; scn = scn; kind = kind }) → to.node ≡ node
message_here node m from to scn kind here is =
    let it : inputs.Message m ≡ inputs.Message (record { from = from; to = to; scn = scn; kind = kind }) = is in
    let one : m ≡ record { from = from; to = to; scn = scn; kind = kind } = cc in
    subst (λ (x : Msg). x.to.node ≡ node) one here

pub came_here : (f : Facts) (k : NodeState) (node : ℕ) (input : Input) (took : Option Took) → Comes f k node input took → (from to : BranchId) (kind : Kind) → Came input from to kind → to.node ≡ node
came_here f k node (inputs.Message m) (Some x) comes from to kind came = message_here node m from to came.scn kind comes.1.here came.is
came_here f k node (inputs.Message m) None comes from to kind came = absurd comes
came_here f k node (inputs.Call session statement) took comes from to kind came = absurd (cc (came.is))
came_here f k node (inputs.GiveUp session) took comes from to kind came = absurd (cc (came.is))
came_here f k node inputs.Reco took comes from to kind came = absurd (cc (came.is))
came_here f k node inputs.Checkpoint took comes from to kind came = absurd (cc (came.is))

pub each_both : (P Q : Live → Work → Type 0) (ls : List Live) (ws : List Work) → EachLive P ls ws → EachLive Q ls ws → EachLive (λ l w. P l w × Q l w) ls ws
each_both P Q ls ws one other = record { there = one.there; each = λ b l found. (one.each b l found, other.each b l found) }

-- messages of others leave a node's branches in turn
calls_stay : (said says : List Post) (k : NodeState) → ((b : BranchId) (l : Live) → live_at k b ≡ Some l → Silent l.me says) → NodeCalls said k → NodeCalls (said ++ says) k
calls_stay said says k silent now =
    each_same (CallsOf said k) (CallsOf (said ++ says) k) k.lives k.works now (λ y v live any is. stays_in_turn (NeedsNoRollback k y) said says y.me y.parent (children_of y) v (silent y.me y live) is)

module _ (places : List Place) (asked : List Command) (each : (n : ℕ) (p : Place) → numbered places n ≡ Some p → IsPlace places n p) where
  module _ (f : Facts) (t : List Event) (bs : List Born) (stand : StandBorn places asked each f t bs) (roots : RootsStand places asked each f) (now : CallsStand f) where
    -- ---- a turn

    module _ (u : Turn) (k : NodeState) (may : MayTurn places f u k) where
      open one_turn places asked f u k use {n, p, d, g, said}

      pub number : p.number ≡ n
      number = number_is places asked each f u.node k stand.0.1.many may.up

      abbrev pub Here : BranchId → Type 0
      Here b = b.node ≡ p.number

      -- a root that stays, and needs no rollback
      abbrev pub May : BranchId → Type 0
      May b = (l : Live) × (item_at live_id d.after.lives b ≡ Some l) × (l.parent ≡ None) × ((session_at d.after.sessions b.session).code ≡ None)

      pub rests : NodeRests k
      rests = subst (λ o. IfSome o NodeRests) may.up (roots n)

      rests_after : NodeRests d.after
      unfolding turn_of
      rests_after = turned places asked each f t bs stand roots u k may

      pub step : Step p u.input (heard k u.input) d
      step = (serves places f u k may).step

      codes : AllNeed k.sessions d.after.sessions
      codes = subst (λ ss. AllNeed ss d.after.sessions) (sessions_heard k u.input) (codes_on p u.input step)

      pub names : NamesAre (Began bs) k
      names = subst (λ o. IfSome o (NamesAre (Began bs))) may.up (stand.1.lives n)

      pub own : Own p.number k
      own = (owned_so places asked each f t stand.0 n k may.up).1

      -- a root that may go on after the turn needed no rollback before it
      goes_before : (b : BranchId) (l : Live) → live_at k b ≡ Some l → (l.parent ≡ None → May l.me) → NeedsNoRollback k l
      goes_before b l live goes none =
          let may_go : May l.me = goes none in
          let before : (session_at k.sessions l.me.session).root ≡ Some l.me = (live_root k rests.1 b l live none).root in
          let me : may_go.0.me ≡ l.me = item_is live_id d.after.lives l.me may_go.0 may_go.1 in
          let after : (session_at d.after.sessions l.me.session).root ≡ Some l.me
          = subst (λ c. (session_at d.after.sessions c.session).root ≡ Some c) me (live_root d.after rests_after.1 l.me may_go.0 may_go.1 may_go.2).root in
          codes l.me.session l.me before after may_go.3

      pub begun : EachLive (turns.Begun (edge_of bs) (parent_of bs) May Here u.input said) (heard k u.input).lives (heard k u.input).works
      begun =
          heard_calls (turns.Begun (edge_of bs) (parent_of bs) May Here u.input said) k u.input
          (each_same (λ l w. CallsOf said k l w × RootIs k.sessions l w) (turns.Begun (edge_of bs) (parent_of bs) May Here u.input said) k.lives k.works
          (each_both (CallsOf said k) (RootIs k.sessions) k.lives k.works (subst (λ o. IfSome o (NodeCalls said)) may.up (now.nodes n)) rests.1)
          (λ y v live any is. record {
            turn = in_turn_goes (NeedsNoRollback k y) (y.parent ≡ None → May y.me) said y.me y.parent (children_of y) v (goes_before y.me y live) is.0;
            kids = kids_of bs y (all_found (LiveIs (Began bs)) live_id k.lives y.me y names.0 live);
            above = above_of bs y (all_found (LiveIs (Began bs)) live_id k.lives y.me y names.0 live);
            idle = λ none s call. (free_waits (session_at k.sessions y.me.session).call y.phase v.going (is.1 none).waits
                (free_by f k u.node y.me.session (Some s) u.took (subst (λ i. Comes f k u.node i u.took) call may.comes))).1;
            here = all_found (λ l. Here l.me) live_id k.lives y.me y own.0 live;
          }))

      pub received : turns.Received (edge_of bs) (parent_of bs) May Here u.input said
      received = record {
        exec = λ from to call task came. (
          child_parent bs to from (came_so (GoesSo (Began bs)) f stand.1.said k u.node u.input u.took may.comes from to (kinds.Exec call task) came),
          came_so (λ a b kind. exec_number kind ≤ newest_exec said a b) f (execs_are_low f) k u.node u.input u.took may.comes from to (kinds.Exec call task) came,
        );
        reply = λ from to call weight count a came. came_so (λ x y kind. reply_number kind ≤ newest_reply said x) f (replies_are_low f) k u.node u.input u.took may.comes from to (kinds.Reply call weight count a) came;
        opened = λ from to edge strength came. child_edge bs from to edge (came_so (GoesSo (Began bs)) f stand.1.said k u.node u.input u.took may.comes from to (kinds.Opened edge strength) came);
        here = λ from to kind came. came_here f k u.node u.input u.took may.comes from to kind came ∙ sym number;
        all = now.all;
      }

      pub news : News (NewBorn (edge_of bs) (parent_of bs) May Here u.input said received) p u.input (heard k u.input)
      news =
          news_of (NewBorn (edge_of bs) (parent_of bs) May Here u.input said received) p k u.input
          (all_weaker (λ y. born_at bs y.me ≡ None) _ (λ y none. (unborn_silent bs stand.1.trees y.me none f.net.packets stand.1.said, ap parent_in none)) _
          (all_unborn places asked each f t bs u k stand.0.1 stand.0.0.even (node_so places asked each f t stand.0) (owned_so places asked each f t stand.0) may number stand.1))

      pub granted : Granted (edge_of bs) (parent_of bs) May Here u.input said received d
      granted = record {
        grants = λ b l found none code. (l, found, none, code);
        sees = λ b goes. goes.3;
        waits = λ b l found none some. subst (λ c. (session_at d.after.sessions c.session).code ≡ None) (item_is live_id d.after.lives b l found) ((rests_after.1.each b l found none).code some);
      }

      pub left : turns.Leaves (edge_of bs) (parent_of bs) May Here u.input said d
      left = turns_on (edge_of bs) (parent_of bs) May Here u.input said received p (λ b is. is) step granted (heard_rests k u.input rests).0 news begun

      after : NodeCalls (said ++ d.says) d.after
      after =
          each_same (turns.Done (edge_of bs) (parent_of bs) May Here u.input said d.says) (CallsOf (said ++ d.says) d.after) d.after.lives d.after.works left.0
          (λ y v live any is. in_turn_goes (y.parent ≡ None → May y.me) (NeedsNoRollback d.after y) (said ++ d.says) y.me y.parent (children_of y) v (λ goes none. (y, live, none, goes none)) is)

      pub here_after : node_at g n ≡ kept_after u.cut (Some (turn_of p k u.input))
      here_after = (turn_here places asked f stand.0.0.even u k may.up).0

      -- a branch of another node is not here
      pub elsewhere_is : (m : ℕ) (j : NodeState) → node_at f m ≡ Some j → (b : BranchId) (l : Live) → live_at j b ≡ Some l → Here l.me → m ≡ n
      elsewhere_is m j up b l live here =
          let there : l.me.node ≡ (place_at places m).number = all_found (λ x. x.me.node ≡ (place_at places m).number) live_id j.lives b l (owned_so places asked each f t stand.0 m j up).1.0 live in
          let its : (place_at places m).number ≡ m = number_is places asked each f m j stand.0.1.many up in
          sym its ∙ (sym there ∙ (here ∙ number))

      other_node : (m : ℕ) → m ≢ n → IfSome (node_at g m) (NodeCalls (said ++ d.says))
      other_node m other = subst (λ o. IfSome o (NodeCalls (said ++ d.says))) (sym (turn_elsewhere places asked f stand.0.0.even u m (λ e. other (sym e))).0) (by (node_at f m) refl (now.nodes m))
        where
          by : (o : Option NodeState) → node_at f m ≡ o → IfSome o (NodeCalls said) → IfSome o (NodeCalls (said ++ d.says))
          by None up old = tt
          by (Some j) up old = calls_stay said d.says j (λ b l live. left.1.1 l.me (λ here. other (elsewhere_is m j up b l live here))) old

      same_node : (m : ℕ) → m ≢ n → IfSome (node_at g m) (NodeCalls said)
      same_node m other = subst (λ o. IfSome o (NodeCalls said)) (sym (turn_elsewhere places asked f stand.0.0.even u m (λ e. other (sym e))).0) (now.nodes m)

      turn_calls : (cut : Bool) → u.cut ≡ cut → IsOwed p k u.input u.wrote u.sent cut → CallsStand g
      unfolding turn_of
      turn_calls false cut owed =
          let sent : said_in g ≡ said ++ d.says = said_after places asked f (happenings.Turn u) ∙ ap (λ xs. said ++ xs) (ap (λ xs. map post_of xs) owed.1 ∙ posts_back d.after.clock d.says) in
          let up : node_at g n ≡ Some d.after = here_after ∙ ap (λ c. kept_after c (Some (turn_of p k u.input))) cut in
          record {
            all = subst Answered (sym sent) left.1.0;
            nodes = λ m. subst (λ xs. IfSome (node_at g m) (NodeCalls xs)) (sym sent) (elim (cases_nat m n) [
              | inl at ↦ subst (λ i. IfSome (node_at g i) (NodeCalls (said ++ d.says))) (sym at) (subst (λ o. IfSome o (NodeCalls (said ++ d.says))) (sym up) after)
              | inr other ↦ other_node m other
            ]);
          }
      turn_calls true cut owed =
          let sent : said_in g ≡ said = said_after places asked f (happenings.Turn u) ∙ (ap (λ xs. said ++ map post_of xs) owed.1 ∙ append-nil said) in
          let down : node_at g n ≡ None = here_after ∙ ap (λ c. kept_after c (Some (turn_of p k u.input))) cut in
          record {
            all = subst Answered (sym sent) now.all;
            nodes = λ m. subst (λ xs. IfSome (node_at g m) (NodeCalls xs)) (sym sent) (elim (cases_nat m n) [
              | inl at ↦ subst (λ i. IfSome (node_at g i) (NodeCalls said)) (sym at) (subst (λ o. IfSome o (NodeCalls said)) (sym down) tt)
              | inr other ↦ same_node m other
            ]);
          }

    -- ---- every happening

    start_calls : (ms : List Post) (zs : List RedoRecord) → NodeCalls ms (start_of zs)
    unfolding start_of
    start_calls ms zs = none_live _

    -- a node that is set
    set_node : (m i : ℕ) (o : Option NodeState) → IfSome o (NodeCalls (said_in f)) → IfSome (flat (numbered (set_numbered f.nodes m o) i)) (NodeCalls (said_in f))
    set_node m i o new = elim (set_or_before f.nodes m i o) [
      | inl still ↦ subst (λ x. IfSome (flat x) (NodeCalls (said_in f))) (sym still) (now.nodes i)
      | inr set ↦ subst (λ x. IfSome (flat x) (NodeCalls (said_in f))) (sym set.1) new
    ]

    -- nothing is sent
    quiet_calls : (h : Happening) → posts_of h ≡ [] → ((i : ℕ) → IfSome (node_at (facts_after places asked f h) i) (NodeCalls (said_in f))) → CallsStand (facts_after places asked f h)
    quiet_calls h none nodes =
        let sent : said_in (facts_after places asked f h) ≡ said_in f = said_after places asked f h ∙ (ap (λ xs. said_in f ++ xs) none ∙ append-nil (said_in f)) in
        record { all = subst Answered (sym sent) now.all; nodes = λ i. subst (λ xs. IfSome (node_at (facts_after places asked f h) i) (NodeCalls xs)) (sym sent) (nodes i) }

    stop_nodes : (m i : ℕ) → IfSome (node_at (facts_after places asked f (happenings.Stopped m)) i) (NodeCalls (said_in f))
    unfolding facts_after
    stop_nodes m i = set_node m i None tt

    start_nodes : (m boot i : ℕ) → IfSome (node_at (facts_after places asked f (happenings.Started m boot)) i) (NodeCalls (said_in f))
    unfolding facts_after
    start_nodes m boot i = set_node m i (Some (start_of (with_boot f m boot))) (start_calls _ _)

    still_nodes : (h : Happening) → (facts_after places asked f h).nodes ≡ f.nodes → (i : ℕ) → IfSome (node_at (facts_after places asked f h) i) (NodeCalls (said_in f))
    still_nodes h is i = subst (λ (xs : List (Option NodeState)). IfSome (flat (numbered xs i)) (NodeCalls (said_in f))) (sym is) (now.nodes i)

    pub same_begun : (c : ℕ) → (facts_after places asked f (happenings.Begun c)).nodes ≡ f.nodes
    unfolding facts_after
    same_begun c = refl

    pub same_cut : (a b : ℕ) → (facts_after places asked f (happenings.Cut a b)).nodes ≡ f.nodes
    unfolding facts_after
    same_cut a b = refl

    pub same_join : (a b : ℕ) → (facts_after places asked f (happenings.Join a b)).nodes ≡ f.nodes
    unfolding facts_after
    same_join a b = refl

    pub same_lost : (k : ℕ) → (facts_after places asked f (happenings.Lost k)).nodes ≡ f.nodes
    unfolding facts_after
    same_lost k = refl

    pub calls_stand_on : (h : Happening) → MayHappen places asked f h → CallsStand (facts_after places asked f h)
    calls_stand_on (happenings.Turn u) may = turn_calls u may.0 may.1 u.cut refl may.1.owed
    calls_stand_on (happenings.Stopped m) may = quiet_calls (happenings.Stopped m) refl (stop_nodes m)
    calls_stand_on (happenings.Started m boot) may = quiet_calls (happenings.Started m boot) refl (start_nodes m boot)
    calls_stand_on (happenings.Begun c) may = quiet_calls (happenings.Begun c) refl (still_nodes (happenings.Begun c) (same_begun c))
    calls_stand_on (happenings.Cut a b) may = quiet_calls (happenings.Cut a b) refl (still_nodes (happenings.Cut a b) (same_cut a b))
    calls_stand_on (happenings.Join a b) may = quiet_calls (happenings.Join a b) refl (still_nodes (happenings.Join a b) (same_join a b))
    calls_stand_on (happenings.Lost k) may = quiet_calls (happenings.Lost k) refl (still_nodes (happenings.Lost k) (same_lost k))

  -- ---- every run

  made_calls : NodeCalls [] made
  unfolding start_of
  made_calls = none_live _

  pub first_calls : CallsStand (first_facts places)
  first_calls = record { all = λ a b. omega arith; nodes = λ n. first_node (λ o. IfSome o (NodeCalls [])) tt made_calls places n }

  calls_keep : (f : Facts) (hs : List Happening) (t : List Event) (bs : List Born) → StandBorn places asked each f t bs → RootsStand places asked each f → CallsStand f → IsLawful places asked f hs → CallsStand (facts_of places asked f hs)
  unfolding facts_of IsLawful
  calls_keep f [] t bs stand roots now lawful = now
  calls_keep f (h ∷ hs) t bs stand roots now lawful =
      calls_keep (facts_after places asked f h) hs (events_after places asked f h t) (births_after places f h bs) (stand_born_on places asked each f t bs h stand lawful.0)
      (roots_stand_on places asked each f t bs stand roots h lawful.0) (calls_stand_on f t bs stand roots now h lawful.0) lawful.1

-- at the end of every run
pub run_calls : (t : History) → IsLawfulRun t → CallsStand (facts_at t)
run_calls t lawful =
    calls_keep t.places t.commands t.of_a_script.each (first_facts t.places) t.trace [] [] (stand_born_first t.places t.commands t.of_a_script.each)
    (first_rests t.places t.commands t.of_a_script.each) (first_calls t.places t.commands t.of_a_script.each) lawful

pub calls_are_answered : CallsAreAnswered
calls_are_answered t lawful = (run_calls t lawful).all

-- the calls of a branch that is found
pub branch_calls : (t : History) → IsLawfulRun t → (n : ℕ) (k : NodeState) → node_at (facts_at t) n ≡ Some k → (x : Branch) → branch_at k x.live.me ≡ Some x → CallsOf (said_in (facts_at t)) k x.live x.work
branch_calls t lawful n k up x found =
    let now : NodeCalls (said_in (facts_at t)) k = subst (λ o. IfSome o (NodeCalls (said_in (facts_at t)))) up ((run_calls t lawful).nodes n) in
    let parts = branch_parts k x.live.me x found in
    subst (CallsOf (said_in (facts_at t)) k x.live) (sym parts.1) (now.each x.live.me x.live parts.0)

pub branches_call_in_turn : BranchesCallInTurn
branches_call_in_turn t lawful n k up x found = let is : CallsOf (said_in (facts_at t)) k x.live x.work = branch_calls t lawful n k up x found in (is.takes, is.makes)

pub edges_fit : EdgesFit
edges_fit t lawful n k up x found i c at m j there y living me =
    let said : List Post = said_in (facts_at t) in
    let above : CallsOf said k x.live x.work = branch_calls t lawful n k up x found in
    let below : CallsOf said j y.live y.work = branch_calls t lawful m j there y living in
    let lives : LiveIs (Began (births_of t)) x.live = all_found (LiveIs (Began (births_of t))) live_id k.lives x.live.me x.live (nodes_name_the_born t lawful n k up).0 (live_so k x.live.me x found) in
    let its : LiveIs (Began (births_of t)) y.live = all_found (LiveIs (Began (births_of t))) live_id j.lives y.live.me y.live (nodes_name_the_born t lawful m j there).0 (live_so j y.live.me y living) in
    let parent : y.live.parent ≡ Some x.live.me = subst (λ b. parent_of (births_of t) b ≡ Some x.live.me → y.live.parent ≡ Some x.live.me) me (above_of (births_of t) y.live its x.live.me) (child_of (births_of t) x.live lives i c at) in
    let made : newest_exec said x.live.me c ≡ call_at x.work i = above.makes.made i c at in
    let taken : y.work.came.last_call ≤ call_at x.work i = subst (λ q. y.work.came.last_call ≤ q) made (subst (λ b. y.work.came.last_call ≤ newest_exec said x.live.me b) me (below.takes.taken x.live.me parent)) in
    let told : newest_reply said c ≤ y.work.came.last_call = subst (λ b. newest_reply said b ≤ y.work.came.last_call) me below.takes.told in
    let answered : call_at x.work i ≤ newest_reply said c + 1 = subst (λ q. q ≤ newest_reply said c + 1) made ((run_calls t lawful).all x.live.me c) in
    let rests : newest_reply said c ≡ y.work.came.last_call → y.work.going ≡ None
    = λ last. below.takes.rests (λ none. (let it : Some x.live.me ≡ None = sym parent ∙ none in absurd cc)) (subst (λ b. newest_reply said b ≡ y.work.came.last_call) (sym me) last) in
    record {
      taken = elim (cases_nat y.work.came.last_call (call_at x.work i)) [
        | inl same_call ↦ inl same_call
        | inr other ↦ (let next : y.work.came.last_call + 1 ≡ call_at x.work i = next_of other taken told answered in inr (next, rests (omega (arith, next, told, answered))))
      ];
      rests = λ goes. elim (above.makes.heard goes i c at) [
        | inl waits ↦ inl waits
        | inr heard ↦ (let last : y.work.came.last_call ≡ call_at x.work i = omega (arith, heard, told, taken) in inr (last, rests (omega (arith, heard, told, taken))))
      ];
    }
  where
    next_of : {a b r : ℕ} → a ≢ b → a ≤ b → r ≤ a → b ≤ r + 1 → a + 1 ≡ b
    next_of {a = a} {b = b} {r = r} other low told answered = by (nat_lt a b) refl
      where
        by : (q : Bool) → nat_lt a b ≡ q → a + 1 ≡ b
        by true is = let less : a < b = grind (arith, nat_tests, is) in omega (arith, less, told, answered)
        by false is = let same_number : a ≡ b = grind (arith, nat_tests, is, low) in absurd (other same_number)
