-- In every lawful run a branch that its parent asked to prepare, or whose COMMIT came, stands still.
use Rattle.std.proofs.Common.{◌≡◌, ◌≢◌, ℕ, ◌≤◌, Bool, true, false, List, [], ◌∷◌, ◌++◌, map, Option, Some, None, inl, inr, refl, sym, ap, subst, ◌∙◌, arith, append-nil}
use Rattle.std.specs.Prelude.{IfSome}
use Rattle.tran_ids.proofs.NumberedLemmas.{set_or_before}
use Rattle.node_rules.specs.Data.{BranchId, Live, Phase, Post, Place, RedoRecord}
use Rattle.node_rules.specs.Data.kinds
use Rattle.node_rules.specs.Data.phases
use Rattle.node_rules.specs.declared.session.PendingCall.{PendingCall}
use Rattle.node_rules.specs.declared.session.PendingCall.TheVariants as pending
use Rattle.node_rules.specs.declared.work.Going.{Going}
use Rattle.node_rules.specs.Words.{numbered, set_numbered}
use Rattle.node_rules.specs.NodeState.{NodeState, Branch, live_id, live_at, branch_at}
use Rattle.node_rules.specs.Sessions.{session_at}
use Rattle.node_rules.specs.Turn.{turn_of, start_of, made, heard}
use Rattle.node_rules.proofs.StandLemmas.{live_so}
use Rattle.agreement.specs.Events.{Event}
use Rattle.run_rules.specs.Data.{Turn, Happening, Command}
use Rattle.run_rules.specs.Data.happenings
use Rattle.run_rules.specs.Facts.{Facts, first_facts, flat, node_at, kept_after, with_boot, facts_after, facts_of}
use Rattle.run_rules.specs.Lawful.{IsPlace, MayTurn, MayHappen, Comes, IsOwed, IsLawful, History, IsLawfulRun, facts_at}
use Rattle.run_base_laws.specs.RunEvents.{events_after}
use Rattle.run_rules.specs.Births.{Born, births_after, births_of, born_at}
use Rattle.run_base_laws.specs.BirthLaws.{Began, LiveIs, GoesSo}
use Rattle.run_rules.specs.Trail.{is_prepare}
use Rattle.run_base_laws.specs.CallLaws.{RootWaits}
use Rattle.run_base_laws.specs.InTurnLaws.{post_of, said_in, newest_exec, newest_reply}
use Rattle.run_base_laws.specs.FreezeLaws.{was_asked, AskedHaveAnswered, AskedStandStill, PrepareFindsRest}
use Rattle.run_rules.proofs.ListLemmas.{all_weaker}
use Rattle.run_base_laws.proofs.OwnLemmas.{all_found}
use Rattle.run_rules.proofs.AtNodeLemmas.{turn_elsewhere}
use Rattle.run_base_laws.proofs.TurnEventLemmas.{cases_nat}
use Rattle.run_base_laws.proofs.EventsStandLemmas.{first_node, node_so, owned_so}
use Rattle.run_base_laws.proofs.BirthLemmas.{news_of}
use Rattle.run_base_laws.proofs.BirthsStandLemmas.{came_so, all_unborn}
use Rattle.run_base_laws.proofs.BirthRunLemmas.{StandBorn, stand_born_on, stand_born_first, nodes_name_the_born, messages_are_of_neighbors}
use Rattle.run_base_laws.proofs.NeighborLemmas.{News}
use Rattle.node_rules.specs.LiveBranches.{EachLive}
use Rattle.node_rules.proofs.LiveLemmas.{each_same, none_live}
use Rattle.run_base_laws.proofs.RestLemmas.{RootIs, free_waits}
use Rattle.run_base_laws.proofs.RestRunLemmas.{NodeRests, heard_rests, free_by, RootsStand, roots_stand_on, first_rests, commits_rest}
use Rattle.run_base_laws.proofs.SaidPostLemmas.{posts_back, posts_of, said_after, prepares_are_said, unborn_asks, unborn_silent, asked_in}
use Rattle.run_base_laws.proofs.KidLemmas.{edge_of, parent_in, parent_of, child_parent, above_of}
use Rattle.run_base_laws.proofs.InTurnLemmas as turns
use Rattle.run_base_laws.proofs.InTurnRunLemmas as calls
use Rattle.run_base_laws.proofs.InTurnRunLemmas.{CallsStand, CallsOf, heard_calls, each_both, calls_stand_on, first_calls, branch_calls}
use Rattle.run_base_laws.proofs.OneTurn.{one_turn}
use Rattle.run_branch_laws.specs.WalkLaws.{OneWay, WalksAreOne}
use Rattle.run_branch_laws.proofs.FreezeLemmas.{AskedAnswered, Frozen, stays_frozen}
use Rattle.run_branch_laws.proofs.FreezeStepLemmas.{Ice, Prepared, Unasking, Freezes, freezes_on}

-- what is known of a node's live branches
abbrev pub NodeFrozen : List Post → NodeState → Type 0
NodeFrozen said k = EachLive (λ l w. Frozen said l) k.lives k.works

-- Branches that were asked stand still everywhere.
pub record FreezeStand (f : Facts) : Type 0 where
  pub all : AskedAnswered (said_in f)
  pub one : OneWay (said_in f)
  pub nodes : (n : ℕ) → IfSome (node_at f n) (NodeFrozen (said_in f))

-- a root that waits is working
goes_working : (c : PendingCall) (phase : Phase) (o : Option Going) → RootWaits c phase o → o ≢ None → phase ≡ phases.Working
goes_working pending.NoCall phase o is waits = is.0
goes_working pending.Statement phase o is waits = is
goes_working pending.Commit phase o is waits = absurd (waits is)

-- the messages of other nodes leave it so
frozen_stay : (said says : List Post) (k : NodeState) → ((b : BranchId) (l : Live) → live_at k b ≡ Some l → (c : BranchId) → was_asked says l.me c ≡ false) → NodeFrozen said k → NodeFrozen (said ++ says) k
frozen_stay said says k none now =
    each_same (λ l w. Frozen said l) (λ l w. Frozen (said ++ says) l) k.lives k.works now (λ y v live any is. stays_frozen said says y.me y.parent y.phase (λ c. none y.me y live c) is)

module _ (places : List Place) (asked : List Command) (each : (n : ℕ) (p : Place) → numbered places n ≡ Some p → IsPlace places n p) where
  module _ (f : Facts) (t : List Event) (bs : List Born) (stand : StandBorn places asked each f t bs) (roots : RootsStand places asked each f) (turned : CallsStand f) (now : FreezeStand f) where
    module _ (u : Turn) (k : NodeState) (may : MayTurn places f u k) where
      open one_turn places asked f u k use {n, p, d, g, said}

      abbrev Here : BranchId → Type 0
      Here = calls.Here places asked each f t bs stand roots turned u k may

      abbrev May : BranchId → Type 0
      May = calls.May places asked each f t bs stand roots turned u k may

      rests : NodeRests k
      rests = calls.rests places asked each f t bs stand roots turned u k may

      abbrev pub received : turns.Received (edge_of bs) (parent_of bs) May Here u.input said
      received = calls.received places asked each f t bs stand roots turned u k may

      pub prepared : Prepared (edge_of bs) (parent_of bs) May Here u.input said received
      prepared = record {
        came = λ from to site_below comment came. (
          child_parent bs to from (came_so (GoesSo (Began bs)) f stand.1.said k u.node u.input u.took may.comes from to (kinds.Prepare site_below comment) came),
          came_so (λ a b kind. is_prepare kind ≡ true → was_asked said a b ≡ true) f (prepares_are_said f) k u.node u.input u.took may.comes from to (kinds.Prepare site_below comment) came refl,
        );
        all = now.all;
        one = now.one;
      }

      pub ice : EachLive (Ice (edge_of bs) (parent_of bs) May Here u.input said received) (heard k u.input).lives (heard k u.input).works
      ice =
          heard_calls (Ice (edge_of bs) (parent_of bs) May Here u.input said received) k u.input
          (each_same (λ l w. Frozen said l × RootIs k.sessions l w) (Ice (edge_of bs) (parent_of bs) May Here u.input said received) k.lives k.works
          (each_both (λ l w. Frozen said l) (RootIs k.sessions) k.lives k.works (subst (λ o. IfSome o (NodeFrozen said)) may.up (now.nodes n)) rests.1)
          (λ y v live any is. record {
            frozen = is.0;
            calls = λ none s call. (free_waits (session_at k.sessions y.me.session).call y.phase v.going (is.1 none).waits
                (free_by f k u.node y.me.session (Some s) u.took (subst (λ i. Comes f k u.node i u.took) call may.comes))).0;
            goes = λ none waits. goes_working (session_at k.sessions y.me.session).call y.phase v.going (is.1 none).waits waits;
          }))

      news : News (Unasking (edge_of bs) (parent_of bs) May Here u.input said received) p u.input (heard k u.input)
      news =
          news_of (Unasking (edge_of bs) (parent_of bs) May Here u.input said received) p k u.input
          (all_weaker (λ y. born_at bs y.me ≡ None) _
          (λ y none. ((unborn_silent bs stand.1.trees y.me none f.net.packets stand.1.said, ap parent_in none), (λ c. unborn_asks bs stand.1.trees y.me none c f.net.packets stand.1.said))) _
          (all_unborn places asked each f t bs u k stand.0.1 stand.0.0.even (node_so places asked each f t stand.0) (owned_so places asked each f t stand.0) may (calls.number places asked each f t bs stand roots turned u k may) stand.1))

      freezes : Freezes (edge_of bs) (parent_of bs) May Here u.input said received d
      freezes =
          freezes_on (edge_of bs) (parent_of bs) May Here u.input said received prepared p (λ b is. is) (calls.step places asked each f t bs stand roots turned u k may)
          (calls.granted places asked each f t bs stand roots turned u k may) (heard_rests k u.input rests).0 news (calls.begun places asked each f t bs stand roots turned u k may) ice

      here_after : node_at g n ≡ kept_after u.cut (Some (turn_of p k u.input))
      here_after = calls.here_after places asked each f t bs stand roots turned u k may

      other_node : (m : ℕ) → m ≢ n → IfSome (node_at g m) (NodeFrozen (said ++ d.says))
      other_node m other = subst (λ o. IfSome o (NodeFrozen (said ++ d.says))) (sym (turn_elsewhere places asked f stand.0.0.even u m (λ e. other (sym e))).0) (by (node_at f m) refl (now.nodes m))
        where
          by : (o : Option NodeState) → node_at f m ≡ o → IfSome o (NodeFrozen said) → IfSome o (NodeFrozen (said ++ d.says))
          by None up old = tt
          by (Some j) up old = frozen_stay said d.says j (λ b l live c. freezes.1.1 l.me c (λ here. other (calls.elsewhere_is places asked each f t bs stand roots turned u k may m j up b l live here))) old

      same_node : (m : ℕ) → m ≢ n → IfSome (node_at g m) (NodeFrozen said)
      same_node m other = subst (λ o. IfSome o (NodeFrozen said)) (sym (turn_elsewhere places asked f stand.0.0.even u m (λ e. other (sym e))).0) (now.nodes m)

      turn_freezes : (cut : Bool) → u.cut ≡ cut → IsOwed p k u.input u.wrote u.sent cut → FreezeStand g
      unfolding turn_of
      turn_freezes false cut owed =
          let sent : said_in g ≡ said ++ d.says = said_after places asked f (happenings.Turn u) ∙ ap (λ xs. said ++ xs) (ap (λ xs. map post_of xs) owed.1 ∙ posts_back d.after.clock d.says) in
          let up : node_at g n ≡ Some d.after = here_after ∙ ap (λ c. kept_after c (Some (turn_of p k u.input))) cut in
          record {
            all = subst AskedAnswered (sym sent) freezes.1.0;
            one = subst OneWay (sym sent) freezes.1.2;
            nodes = λ m. subst (λ xs. IfSome (node_at g m) (NodeFrozen xs)) (sym sent) (elim (cases_nat m n) [
              | inl at ↦ subst (λ i. IfSome (node_at g i) (NodeFrozen (said ++ d.says))) (sym at) (subst (λ o. IfSome o (NodeFrozen (said ++ d.says))) (sym up) freezes.0)
              | inr other ↦ other_node m other
            ]);
          }
      turn_freezes true cut owed =
          let sent : said_in g ≡ said = said_after places asked f (happenings.Turn u) ∙ (ap (λ xs. said ++ map post_of xs) owed.1 ∙ append-nil said) in
          let down : node_at g n ≡ None = here_after ∙ ap (λ c. kept_after c (Some (turn_of p k u.input))) cut in
          record {
            all = subst AskedAnswered (sym sent) now.all;
            one = subst OneWay (sym sent) now.one;
            nodes = λ m. subst (λ xs. IfSome (node_at g m) (NodeFrozen xs)) (sym sent) (elim (cases_nat m n) [
              | inl at ↦ subst (λ i. IfSome (node_at g i) (NodeFrozen said)) (sym at) (subst (λ o. IfSome o (NodeFrozen said)) (sym down) tt)
              | inr other ↦ same_node m other
            ]);
          }

    -- ---- every happening

    start_frozen : (ms : List Post) (zs : List RedoRecord) → NodeFrozen ms (start_of zs)
    unfolding start_of
    start_frozen ms zs = none_live _

    -- a node that is set
    set_node : (m i : ℕ) (o : Option NodeState) → IfSome o (NodeFrozen (said_in f)) → IfSome (flat (numbered (set_numbered f.nodes m o) i)) (NodeFrozen (said_in f))
    set_node m i o new = elim (set_or_before f.nodes m i o) [
      | inl still ↦ subst (λ x. IfSome (flat x) (NodeFrozen (said_in f))) (sym still) (now.nodes i)
      | inr set ↦ subst (λ x. IfSome (flat x) (NodeFrozen (said_in f))) (sym set.1) new
    ]

    -- nothing is sent
    quiet_freezes : (h : Happening) → posts_of h ≡ [] → ((i : ℕ) → IfSome (node_at (facts_after places asked f h) i) (NodeFrozen (said_in f))) → FreezeStand (facts_after places asked f h)
    quiet_freezes h none nodes =
        let sent : said_in (facts_after places asked f h) ≡ said_in f = said_after places asked f h ∙ (ap (λ xs. said_in f ++ xs) none ∙ append-nil (said_in f)) in
        record { all = subst AskedAnswered (sym sent) now.all; one = subst OneWay (sym sent) now.one; nodes = λ i. subst (λ xs. IfSome (node_at (facts_after places asked f h) i) (NodeFrozen xs)) (sym sent) (nodes i) }

    stop_nodes : (m i : ℕ) → IfSome (node_at (facts_after places asked f (happenings.Stopped m)) i) (NodeFrozen (said_in f))
    unfolding facts_after
    stop_nodes m i = set_node m i None tt

    start_nodes : (m boot i : ℕ) → IfSome (node_at (facts_after places asked f (happenings.Started m boot)) i) (NodeFrozen (said_in f))
    unfolding facts_after
    start_nodes m boot i = set_node m i (Some (start_of (with_boot f m boot))) (start_frozen _ _)

    still_nodes : (h : Happening) → (facts_after places asked f h).nodes ≡ f.nodes → (i : ℕ) → IfSome (node_at (facts_after places asked f h) i) (NodeFrozen (said_in f))
    still_nodes h is i = subst (λ (xs : List (Option NodeState)). IfSome (flat (numbered xs i)) (NodeFrozen (said_in f))) (sym is) (now.nodes i)

    pub freeze_on : (h : Happening) → MayHappen places asked f h → FreezeStand (facts_after places asked f h)
    freeze_on (happenings.Turn u) may = turn_freezes u may.0 may.1 u.cut refl may.1.owed
    freeze_on (happenings.Stopped m) may = quiet_freezes (happenings.Stopped m) refl (stop_nodes m)
    freeze_on (happenings.Started m boot) may = quiet_freezes (happenings.Started m boot) refl (start_nodes m boot)
    freeze_on (happenings.Begun c) may = quiet_freezes (happenings.Begun c) refl (still_nodes (happenings.Begun c) (calls.same_begun places asked each f t bs stand roots turned c))
    freeze_on (happenings.Cut a b) may = quiet_freezes (happenings.Cut a b) refl (still_nodes (happenings.Cut a b) (calls.same_cut places asked each f t bs stand roots turned a b))
    freeze_on (happenings.Join a b) may = quiet_freezes (happenings.Join a b) refl (still_nodes (happenings.Join a b) (calls.same_join places asked each f t bs stand roots turned a b))
    freeze_on (happenings.Lost k) may = quiet_freezes (happenings.Lost k) refl (still_nodes (happenings.Lost k) (calls.same_lost places asked each f t bs stand roots turned k))

  -- ---- every run

  made_frozen : NodeFrozen [] made
  unfolding start_of
  made_frozen = none_live _

  pub first_freeze : FreezeStand (first_facts places)
  first_freeze = record { all = λ p c is. absurd cc; one = λ p c is. absurd cc; nodes = λ n. first_node (λ o. IfSome o (NodeFrozen [])) tt made_frozen places n }

  freeze_keep : (f : Facts) (hs : List Happening) (t : List Event) (bs : List Born) → StandBorn places asked each f t bs → RootsStand places asked each f → CallsStand f → FreezeStand f → IsLawful places asked f hs → FreezeStand (facts_of places asked f hs)
  unfolding facts_of IsLawful
  freeze_keep f [] t bs stand roots turned now lawful = now
  freeze_keep f (h ∷ hs) t bs stand roots turned now lawful =
      freeze_keep (facts_after places asked f h) hs (events_after places asked f h t) (births_after places f h bs) (stand_born_on places asked each f t bs h stand lawful.0)
      (roots_stand_on places asked each f t bs stand roots h lawful.0) (calls_stand_on places asked each f t bs stand roots turned h lawful.0) (freeze_on f t bs stand roots turned now h lawful.0) lawful.1

-- at the end of every run
pub run_freezes : (t : History) → IsLawfulRun t → FreezeStand (facts_at t)
run_freezes t lawful =
    freeze_keep t.places t.commands t.of_a_script.each (first_facts t.places) t.trace [] [] (stand_born_first t.places t.commands t.of_a_script.each)
    (first_rests t.places t.commands t.of_a_script.each) (first_calls t.places t.commands t.of_a_script.each) (first_freeze t.places t.commands t.of_a_script.each) lawful

pub asked_have_answered : AskedHaveAnswered
asked_have_answered t lawful = (run_freezes t lawful).all

-- a live branch that its parent asked
rests_so : (t : History) → IsLawfulRun t → (n : ℕ) (k : NodeState) → node_at (facts_at t) n ≡ Some k → (x : Branch) → branch_at k x.live.me ≡ Some x → (p : BranchId) → x.live.parent ≡ Some p → was_asked (said_in (facts_at t)) p x.live.me ≡ true
    → (x.work.going ≡ None) × (newest_exec (said_in (facts_at t)) p x.live.me ≡ x.work.came.last_call)
rests_so t lawful n k up x found p above asked =
    let said : List Post = said_in (facts_at t) in
    let is : CallsOf said k x.live x.work = branch_calls t lawful n k up x found in
    let low : newest_exec said p x.live.me ≤ newest_reply said x.live.me = asked_have_answered t lawful p x.live.me asked in
    let last : newest_reply said x.live.me ≡ x.work.came.last_call = omega (arith, low, is.takes.taken p above, is.takes.told) in
    (is.takes.rests (λ none. absurd (cc (above, none))) last, omega (arith, low, is.takes.taken p above, is.takes.told))

pub asked_stand_still : AskedStandStill
asked_stand_still t lawful n k up x found =
    let frozen : Frozen (said_in (facts_at t)) x.live = (subst (λ o. IfSome o (NodeFrozen (said_in (facts_at t)))) up ((run_freezes t lawful).nodes n)).each x.live.me x.live (live_so k x.live.me x found) in (
      frozen.working,
      (λ other. (by other x.live.parent refl, (λ p above. (let asked = frozen.asked other p above in (asked, (rests_so t lawful n k up x found p above asked).1))))),
    )
  where
    by : x.live.phase ≢ phases.Working → (o : Option BranchId) → x.live.parent ≡ o → x.work.going ≡ None
    by other None none = commits_rest t lawful n k up x found none other
    by other (Some p) above =
        let frozen : Frozen (said_in (facts_at t)) x.live = (subst (λ o. IfSome o (NodeFrozen (said_in (facts_at t)))) up ((run_freezes t lawful).nodes n)).each x.live.me x.live (live_so k x.live.me x found) in
        (rests_so t lawful n k up x found p above (frozen.asked other p above)).0

-- who was asked by a branch is its child
asked_child : (t : History) → IsLawfulRun t → (p c : BranchId) → was_asked (said_in (facts_at t)) p c ≡ true → parent_of (births_of t) c ≡ Some p
asked_child t lawful p c is = asked_in (births_of t) p c (facts_at t).net.packets (messages_are_of_neighbors t lawful) is

pub prepare_finds_rest : PrepareFindsRest
prepare_finds_rest t lawful p n k up x found asked =
    let lives : LiveIs (Began (births_of t)) x.live = all_found (LiveIs (Began (births_of t))) live_id k.lives x.live.me x.live (nodes_name_the_born t lawful n k up).0 (live_so k x.live.me x found) in
    let parent : x.live.parent ≡ Some p = above_of (births_of t) x.live lives p (asked_child t lawful p x.live.me asked) in
    let rests = rests_so t lawful n k up x found p parent asked in
    (parent, rests.0, rests.1)

pub walks_are_one : WalksAreOne
walks_are_one t lawful = (run_freezes t lawful).one
