-- In every lawful run no Reply tells of more branches than a session tree may have: by induction over the happenings.
use Rattle.std.proofs.Common.{◌≡◌, ◌≢◌, ℕ, ◌≤◌, Bool, true, false, List, [], ◌∷◌, ◌++◌, map, Option, Some, None, inl, inr, refl, sym, ap, subst, ◌∙◌, arith, append-nil}
use Rattle.std.specs.Prelude.{IfSome}
use Rattle.std.specs.List.{AllByRecursion}
use Rattle.dtx_values.specs.Limits.{branch_limit}
use Rattle.tran_ids.proofs.ListedLemmas.{item_is}
use Rattle.tran_ids.proofs.NumberedLemmas.{set_or_before}
use Rattle.session_tree.specs.Tree.{count}
use Rattle.node_rules.specs.Data.{BranchId, Edge, Kind, Live, Msg, Post, Place, RedoRecord}
use Rattle.node_rules.specs.Data.kinds
use Rattle.node_rules.specs.declared.work.Work.{Work}
use Rattle.node_rules.specs.Words.{numbered, set_numbered}
use Rattle.node_rules.specs.NodeState.{NodeState, TurnDraft, live_id, live_at}
use Rattle.node_rules.specs.Sessions.{session_at}
use Rattle.node_rules.specs.Turn.{stamped, turn_of, start_of, made, draft_of}
use Rattle.agreement.specs.Events.{Event}
use Rattle.run_rules.specs.Data.{Packet, Turn, Happening, Command}
use Rattle.run_rules.specs.Data.happenings
use Rattle.run_rules.specs.Facts.{Facts, first_facts, place_at, flat, node_at, kept_after, with_boot, facts_after}
use Rattle.run_rules.specs.Lawful.{IsPlace, MayTurn, MayHappen, IsOwed, IsLawful}
use Rattle.run_base_laws.specs.NodeLaws.{EachFactFrom}
use Rattle.run_base_laws.specs.RunEvents.{events_after}
use Rattle.run_rules.specs.Births.{Born, births_after}
use Rattle.run_base_laws.specs.InTurnLaws.{post_of, packet_post, said_in, NeedsNoRollback}
use Rattle.run_rules.proofs.ListLemmas.{all_weaker}
use Rattle.run_base_laws.proofs.TurnEventLemmas.{cases_nat}
use Rattle.run_base_laws.proofs.EventsStandLemmas.{first_node}
use Rattle.run_rules.proofs.AtNodeLemmas.{turn_elsewhere}
use Rattle.run_base_laws.proofs.BirthsStandLemmas.{came_so}
use Rattle.run_base_laws.proofs.BirthRunLemmas.{StandBorn, stand_born_on, stand_born_first}
use Rattle.run_base_laws.proofs.CodeLemmas.{AllNeed, codes_on}
use Rattle.run_base_laws.proofs.CallTurnLemmas.{Silent}
use Rattle.node_rules.specs.LiveBranches.{EachLive}
use Rattle.node_rules.proofs.LiveLemmas.{each_same, none_live}
use Rattle.node_rules.proofs.HeardLemmas.{sessions_heard}
use Rattle.run_base_laws.proofs.RestLemmas.{live_root}
use Rattle.run_base_laws.proofs.RestRunLemmas.{NodeRests, heard_rests, RootsStand, turned, roots_stand_on, first_rests}
use Rattle.run_base_laws.proofs.SaidPostLemmas.{posts_back, posts_of, said_after}
use Rattle.run_base_laws.proofs.InTurnRunLemmas as calls
use Rattle.run_base_laws.proofs.InTurnRunLemmas.{CallsStand, heard_calls, calls_stand_on, first_calls}
use Rattle.node_ready_laws.specs.Shapes.{TellsFew}
use Rattle.run_ready_laws.specs.ReadyRuns.{RepliesTellFew}
use Rattle.run_ready_laws.specs.CountLaws.{TellsOfTree, RepliesTellOfTree, CountsAreOfTrees, CountsAreFew}
use Rattle.run_ready_laws.proofs.SentLemmas.{room_of, Gave, Told, FitsSo, AllFit, NewSo, AllNew, all_fit}
use Rattle.run_ready_laws.proofs.CountLemmas.{spare, ChildFits, ParentFits, child_more, parent_more}
use Rattle.run_ready_laws.proofs.CountStepLemmas.{CameFits}
use Rattle.run_ready_laws.proofs.CountTurnLemmas.{fits_on}

-- ---- messages that came

-- a call gave its room, and a Reply told its count
abbrev CameSo : List Post → BranchId → BranchId → Kind → Type 0
CameSo said from to (kinds.Exec call task) = Gave said from to call (room_of task)
CameSo said from to (kinds.Reply call weight count a) = Told said from to call count
CameSo said from to _ = Unit {0}

came_first : (ms : List Post) (from to : BranchId) (kind : Kind) → CameSo (record { from = from; to = to; kind = kind } ∷ ms) from to kind
came_first ms from to (kinds.Exec call task) = inl (refl, refl, (refl, refl))
came_first ms from to (kinds.Reply call weight count a) = inl (refl, refl, (refl, refl))
came_first ms from to _ = tt

came_later : (m : Post) (ms : List Post) (from to : BranchId) (kind : Kind) → CameSo ms from to kind → CameSo (m ∷ ms) from to kind
came_later m ms from to (kinds.Exec call task) is = inr is
came_later m ms from to (kinds.Reply call weight count a) is = inr is
came_later m ms from to _ is = tt

-- each that was sent did
all_came : (xs : List Packet) → AllByRecursion (λ x. CameSo (map packet_post xs) x.msg.from x.msg.to x.msg.kind) xs
all_came [] = tt
all_came (x ∷ xs) = (came_first (map packet_post xs) x.msg.from x.msg.to x.msg.kind, all_weaker _ _ (λ y old. came_later (packet_post x) (map packet_post xs) y.msg.from y.msg.to y.msg.kind old) xs (all_came xs))

-- and fits
pub packets_fit : (said : List Post) (xs : List Packet) → AllFit said (map packet_post xs) → AllByRecursion (λ x. FitsSo said x.msg.from x.msg.to x.msg.kind) xs
packets_fit said [] all = tt
packets_fit said (x ∷ xs) all = (all.0, packets_fit said xs all.1)

-- ---- what is sent

tree_kind : (said : List Post) (from to : BranchId) (kind : Kind) → NewSo said from to kind → TellsOfTree kind
tree_kind said from to (kinds.Reply call weight count a) new = new.1
tree_kind said from to _ new = tt

tree_sent : (said : List Post) (clock : ℕ) (says : List Post) → AllNew said says → AllByRecursion (λ m. TellsOfTree m.kind) (map (stamped clock) says)
tree_sent said clock [] all = tt
tree_sent said clock (m ∷ ms) all = (tree_kind said m.from m.to m.kind all.0, tree_sent said clock ms all.1)

pub few_kind : (kind : Kind) → TellsOfTree kind → TellsFew kind
few_kind (kinds.Reply call weight count a) low = (let few : count ≤ branch_limit = low in let it : count ≤ 256 = omega (arith, few) in it)
few_kind _ low = tt

few_happen : (places : List Place) (f : Facts) (h : Happening) → RepliesTellOfTree places f h → RepliesTellFew places f h
few_happen places f (happenings.Turn u) low = all_weaker (λ m. TellsOfTree m.kind) (λ m. TellsFew m.kind) (λ m is. few_kind m.kind is) u.sent low
few_happen places f _ low = tt

few_each : (places : List Place) (asked : List Command) (f : Facts) (hs : List Happening) → EachFactFrom (RepliesTellOfTree places) places asked f hs → EachFactFrom (RepliesTellFew places) places asked f hs
few_each places asked f [] low = tt
few_each places asked f (h ∷ hs) low = (few_happen places f h low.0, few_each places asked (facts_after places asked f h) hs low.1)

-- ---- what stands

abbrev pub LiveFits : List Post → NodeState → Live → Work → Type 0
LiveFits said k l w = ChildFits said l.me l.parent (count l) (spare l.parent (count l) w.going) w.came w.going × ParentFits said (NeedsNoRollback k l) l.me (count l) (spare l.parent (count l) w.going) l.edges w

-- of a node's live branches
abbrev pub NodeFits : List Post → NodeState → Type 0
NodeFits said k = EachLive (LiveFits said k) k.lives k.works

-- So it is everywhere.
pub record CountStand (f : Facts) : Type 0 where
  pub all : AllFit (said_in f) (said_in f)
  pub nodes : (n : ℕ) → IfSome (node_at f n) (NodeFits (said_in f))

-- one that goes on only where this one does
parent_goes : (said : List Post) (G H : Type 0) (me : BranchId) (n sp : ℕ) (es : List Edge) (w : Work) → (H → G) → ParentFits said G me n sp es w → ParentFits said H me n sp es w
parent_goes said G H me n sp es w goes is = record { held = λ h. is.held (goes h); waits = is.waits; called = is.called; few = is.few; opens = is.opens }

-- messages of others
node_stays : (said says : List Post) (k : NodeState) → AllNew said says → ((b : BranchId) (l : Live) → live_at k b ≡ Some l → Silent l.me says) → NodeFits said k → NodeFits (said ++ says) k
node_stays said says k new silent now = each_same (LiveFits said k) (LiveFits (said ++ says) k) k.lives k.works now (λ y v live any is. (
  child_more said says y.me y.parent (count y) (spare y.parent (count y) v.going) v.came v.going (silent y.me y live).replies is.0,
  parent_more said says (NeedsNoRollback k y) y.me (count y) (spare y.parent (count y) v.going) y.edges v new (silent y.me y live) is.1,
))

module _ (places : List Place) (asked : List Command) (each : (n : ℕ) (p : Place) → numbered places n ≡ Some p → IsPlace places n p) where
  module _ (f : Facts) (t : List Event) (bs : List Born) (stand : StandBorn places asked each f t bs) (roots : RootsStand places asked each f) (turns : CallsStand f) (now : CountStand f) where
    module _ (u : Turn) (k : NodeState) (may : MayTurn places f u k) where
      abbrev n : ℕ
      n = u.node

      abbrev p : Place
      p = place_at places u.node

      abbrev d : TurnDraft
      d = draft_of p k u.input

      abbrev g : Facts
      g = facts_after places asked f (happenings.Turn u)

      abbrev said : List Post
      said = said_in f

      abbrev more : List Post
      more = said ++ d.says

      abbrev Here : BranchId → Type 0
      Here = calls.Here places asked each f t bs stand roots turns u k may

      abbrev May : BranchId → Type 0
      May = calls.May places asked each f t bs stand roots turns u k may

      rests : NodeRests k
      rests = calls.rests places asked each f t bs stand roots turns u k may

      rests_after : NodeRests d.after
      unfolding turn_of
      rests_after = turned places asked each f t bs stand roots u k may

      codes : AllNeed k.sessions d.after.sessions
      codes = subst (λ ss. AllNeed ss d.after.sessions) (sessions_heard k u.input) (codes_on p u.input (calls.step places asked each f t bs stand roots turns u k may))

      -- a root that may go on after the turn needed no rollback before it
      goes_before : (b : BranchId) (l : Live) → live_at k b ≡ Some l → (l.parent ≡ None → May l.me) → NeedsNoRollback k l
      goes_before b l live goes none =
          let may_go : May l.me = goes none in
          let before : (session_at k.sessions l.me.session).root ≡ Some l.me = (live_root k rests.1 b l live none).root in
          let me : may_go.0.me ≡ l.me = item_is live_id d.after.lives l.me may_go.0 may_go.1 in
          let after : (session_at d.after.sessions l.me.session).root ≡ Some l.me
          = subst (λ c. (session_at d.after.sessions c.session).root ≡ Some c) me (live_root d.after rests_after.1 l.me may_go.0 may_go.1 may_go.2).root in
          codes l.me.session l.me before after may_go.3

      came_fits : CameFits u.input said
      came_fits = record {
        exec = λ from to call task came. (
          came_so (CameSo said) f (all_came f.net.packets) k u.node u.input u.took may.comes from to (kinds.Exec call task) came,
          came_so (FitsSo said) f (packets_fit said f.net.packets now.all) k u.node u.input u.took may.comes from to (kinds.Exec call task) came,
        );
        reply = λ from to call weight count a came. came_so (CameSo said) f (all_came f.net.packets) k u.node u.input u.took may.comes from to (kinds.Reply call weight count a) came;
      }

      olds : NodeFits said k
      olds = subst (λ o. IfSome o (NodeFits said)) may.up (now.nodes n)

      fits_before : EachLive (λ l w. ChildFits said l.me l.parent (count l) (spare l.parent (count l) w.going) w.came w.going × ParentFits said (l.parent ≡ None → May l.me) l.me (count l) (spare l.parent (count l) w.going) l.edges w) k.lives k.works
      fits_before = each_same (LiveFits said k) _ k.lives k.works olds (λ y v live any is. (is.0, parent_goes said (NeedsNoRollback k y) (y.parent ≡ None → May y.me) y.me (count y) (spare y.parent (count y) v.going) y.edges v (goes_before y.me y live) is.1))

      fits_done : EachLive (λ l w. ChildFits more l.me l.parent (count l) (spare l.parent (count l) w.going) w.came w.going × ParentFits more (l.parent ≡ None → May l.me) l.me (count l) (spare l.parent (count l) w.going) l.edges w) d.after.lives d.after.works
          × AllNew said d.says
      fits_done =
          fits_on _ _ May Here u.input said (calls.received places asked each f t bs stand roots turns u k may) now.all came_fits p (λ b is. is)
          (calls.step places asked each f t bs stand roots turns u k may) (calls.granted places asked each f t bs stand roots turns u k may) (heard_rests k u.input rests).0 (calls.news places asked each f t bs stand roots turns u k may)
          (calls.begun places asked each f t bs stand roots turns u k may) (heard_calls _ k u.input fits_before)

      after : NodeFits more d.after
      after = each_same _ (LiveFits more d.after) d.after.lives d.after.works fits_done.0
          (λ y v live any is. (is.0, parent_goes more (y.parent ≡ None → May y.me) (NeedsNoRollback d.after y) y.me (count y) (spare y.parent (count y) v.going) y.edges v (λ goes none. (y, live, none, goes none)) is.1))

      here_after : node_at g n ≡ kept_after u.cut (Some (turn_of p k u.input))
      here_after = calls.here_after places asked each f t bs stand roots turns u k may

      other_node : (m : ℕ) → m ≢ n → IfSome (node_at g m) (NodeFits more)
      other_node m other = subst (λ o. IfSome o (NodeFits more)) (sym (turn_elsewhere places asked f stand.0.0.even u m (λ e. other (sym e))).0) (by (node_at f m) refl (now.nodes m))
        where
          by : (o : Option NodeState) → node_at f m ≡ o → IfSome o (NodeFits said) → IfSome o (NodeFits more)
          by None up old = tt
          by (Some j) up old =
              node_stays said d.says j fits_done.1
              (λ b l live. (calls.left places asked each f t bs stand roots turns u k may).1.1 l.me (λ here. other (calls.elsewhere_is places asked each f t bs stand roots turns u k may m j up b l live here))) old

      same_node : (m : ℕ) → m ≢ n → IfSome (node_at g m) (NodeFits said)
      same_node m other = subst (λ o. IfSome o (NodeFits said)) (sym (turn_elsewhere places asked f stand.0.0.even u m (λ e. other (sym e))).0) (now.nodes m)

      turn_fits : (cut : Bool) → u.cut ≡ cut → IsOwed p k u.input u.wrote u.sent cut → CountStand g × AllByRecursion (λ m. TellsOfTree m.kind) u.sent
      unfolding turn_of
      turn_fits false cut owed =
          let sent : said_in g ≡ more = said_after places asked f (happenings.Turn u) ∙ ap (λ xs. said ++ xs) (ap (λ xs. map post_of xs) owed.1 ∙ posts_back d.after.clock d.says) in
          let up : node_at g n ≡ Some d.after = here_after ∙ ap (λ c. kept_after c (Some (turn_of p k u.input))) cut in (
            record {
              all = subst (λ xs. AllFit xs xs) (sym sent) (all_fit said d.says now.all fits_done.1);
              nodes = λ m. subst (λ xs. IfSome (node_at g m) (NodeFits xs)) (sym sent) (elim (cases_nat m n) [
                | inl at ↦ subst (λ i. IfSome (node_at g i) (NodeFits more)) (sym at) (subst (λ o. IfSome o (NodeFits more)) (sym up) after)
                | inr other ↦ other_node m other
              ]);
            },
            subst (λ xs. AllByRecursion (λ (m : Msg). TellsOfTree m.kind) xs) (sym owed.1) (tree_sent said d.after.clock d.says fits_done.1),
          )
      turn_fits true cut owed =
          let sent : said_in g ≡ said = said_after places asked f (happenings.Turn u) ∙ (ap (λ xs. said ++ map post_of xs) owed.1 ∙ append-nil said) in
          let down : node_at g n ≡ None = here_after ∙ ap (λ c. kept_after c (Some (turn_of p k u.input))) cut in (
            record {
              all = subst (λ xs. AllFit xs xs) (sym sent) now.all;
              nodes = λ m. subst (λ xs. IfSome (node_at g m) (NodeFits xs)) (sym sent) (elim (cases_nat m n) [
                | inl at ↦ subst (λ i. IfSome (node_at g i) (NodeFits said)) (sym at) (subst (λ o. IfSome o (NodeFits said)) (sym down) tt)
                | inr other ↦ same_node m other
              ]);
            },
            subst (λ xs. AllByRecursion (λ (m : Msg). TellsOfTree m.kind) xs) (sym owed.1) tt,
          )

    -- ---- every happening

    start_fits : (ms : List Post) (zs : List RedoRecord) → NodeFits ms (start_of zs)
    unfolding start_of
    start_fits ms zs = none_live _

    -- a node that is set
    set_node : (m i : ℕ) (o : Option NodeState) → IfSome o (NodeFits (said_in f)) → IfSome (flat (numbered (set_numbered f.nodes m o) i)) (NodeFits (said_in f))
    set_node m i o new = elim (set_or_before f.nodes m i o) [
      | inl still ↦ subst (λ x. IfSome (flat x) (NodeFits (said_in f))) (sym still) (now.nodes i)
      | inr set ↦ subst (λ x. IfSome (flat x) (NodeFits (said_in f))) (sym set.1) new
    ]

    -- nothing is sent
    quiet_fits : (h : Happening) → posts_of h ≡ [] → ((i : ℕ) → IfSome (node_at (facts_after places asked f h) i) (NodeFits (said_in f))) → CountStand (facts_after places asked f h)
    quiet_fits h none nodes =
        let sent : said_in (facts_after places asked f h) ≡ said_in f = said_after places asked f h ∙ (ap (λ xs. said_in f ++ xs) none ∙ append-nil (said_in f)) in
        record { all = subst (λ xs. AllFit xs xs) (sym sent) now.all; nodes = λ i. subst (λ xs. IfSome (node_at (facts_after places asked f h) i) (NodeFits xs)) (sym sent) (nodes i) }

    stop_nodes : (m i : ℕ) → IfSome (node_at (facts_after places asked f (happenings.Stopped m)) i) (NodeFits (said_in f))
    unfolding facts_after
    stop_nodes m i = set_node m i None tt

    start_nodes : (m boot i : ℕ) → IfSome (node_at (facts_after places asked f (happenings.Started m boot)) i) (NodeFits (said_in f))
    unfolding facts_after
    start_nodes m boot i = set_node m i (Some (start_of (with_boot f m boot))) (start_fits _ _)

    still_nodes : (h : Happening) → (facts_after places asked f h).nodes ≡ f.nodes → (i : ℕ) → IfSome (node_at (facts_after places asked f h) i) (NodeFits (said_in f))
    still_nodes h is i = subst (λ (xs : List (Option NodeState)). IfSome (flat (numbered xs i)) (NodeFits (said_in f))) (sym is) (now.nodes i)

    pub counts_on : (h : Happening) → MayHappen places asked f h → CountStand (facts_after places asked f h) × RepliesTellOfTree places f h
    counts_on (happenings.Turn u) may = turn_fits u may.0 may.1 u.cut refl may.1.owed
    counts_on (happenings.Stopped m) may = (quiet_fits (happenings.Stopped m) refl (stop_nodes m), tt)
    counts_on (happenings.Started m boot) may = (quiet_fits (happenings.Started m boot) refl (start_nodes m boot), tt)
    counts_on (happenings.Begun c) may = (quiet_fits (happenings.Begun c) refl (still_nodes (happenings.Begun c) (calls.same_begun places asked each f t bs stand roots turns c)), tt)
    counts_on (happenings.Cut a b) may = (quiet_fits (happenings.Cut a b) refl (still_nodes (happenings.Cut a b) (calls.same_cut places asked each f t bs stand roots turns a b)), tt)
    counts_on (happenings.Join a b) may = (quiet_fits (happenings.Join a b) refl (still_nodes (happenings.Join a b) (calls.same_join places asked each f t bs stand roots turns a b)), tt)
    counts_on (happenings.Lost k) may = (quiet_fits (happenings.Lost k) refl (still_nodes (happenings.Lost k) (calls.same_lost places asked each f t bs stand roots turns k)), tt)

  -- ---- every run

  made_fits : NodeFits [] made
  unfolding start_of
  made_fits = none_live _

  pub first_counts : CountStand (first_facts places)
  first_counts = record { all = tt; nodes = λ n. first_node (λ o. IfSome o (NodeFits [])) tt made_fits places n }

  counts_each : (f : Facts) (hs : List Happening) (t : List Event) (bs : List Born) → StandBorn places asked each f t bs → RootsStand places asked each f → CallsStand f → CountStand f → IsLawful places asked f hs
      → EachFactFrom (RepliesTellOfTree places) places asked f hs
  unfolding IsLawful
  counts_each f [] t bs stand roots turns now lawful = tt
  counts_each f (h ∷ hs) t bs stand roots turns now lawful =
      let is = counts_on f t bs stand roots turns now h lawful.0 in (
        is.1,
        counts_each (facts_after places asked f h) hs (events_after places asked f h t) (births_after places f h bs) (stand_born_on places asked each f t bs h stand lawful.0)
            (roots_stand_on places asked each f t bs stand roots h lawful.0) (calls_stand_on places asked each f t bs stand roots turns h lawful.0) is.0 lawful.1,
      )

pub counts_are_of_trees : CountsAreOfTrees
counts_are_of_trees t lawful =
    counts_each t.places t.commands t.of_a_script.each (first_facts t.places) t.trace [] [] (stand_born_first t.places t.commands t.of_a_script.each)
    (first_rests t.places t.commands t.of_a_script.each) (first_calls t.places t.commands t.of_a_script.each) (first_counts t.places t.commands t.of_a_script.each) lawful

pub counts_are_few : CountsAreFew
counts_are_few t lawful = few_each t.places t.commands (first_facts t.places) t.trace (counts_are_of_trees t lawful)
