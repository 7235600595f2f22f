-- In every lawful run what was heard of neighbours is true.
use Rattle.std.proofs.Common.{◌≡◌, ℕ, ◌≤◌, Bool, true, false, List, [], ◌∷◌, map, length, Option, Some, None, inl, inr, refl, sym, ap, subst, ◌∙◌, arith}
use Rattle.std.specs.Prelude.{IfSome}
use Rattle.std.specs.List.{AllByRecursion, list_any}
use Rattle.tran_ids.proofs.ListedLemmas.{item_is}
use Rattle.agreement.specs.Events.{Quiet, Event, exit}
use Rattle.node_rules.specs.Data.{BranchId, Kind, Msg, RedoRecord, Place, Input}
use Rattle.node_rules.specs.Data.kinds
use Rattle.node_rules.specs.Data.records
use Rattle.node_rules.specs.Data.inputs
use Rattle.node_rules.specs.Words.{numbered}
use Rattle.node_rules.specs.Inputs.{Came}
use Rattle.node_rules.specs.NodeState.{NodeState, live_id}
use Rattle.node_rules.specs.Records.{nothing_stored}
use Rattle.node_rules.specs.Turn.{made, turn_of, start_of, heard, stamped}
use Rattle.run_rules.specs.Data.{Turn, Happening, Command}
use Rattle.run_rules.specs.Data.happenings
use Rattle.run_rules.specs.Branches.{is_among}
use Rattle.run_rules.specs.Trail.{is_read_only, is_quiet}
use Rattle.run_rules.specs.Facts.{Facts, first_facts, node_at, kept_after, with_boot, facts_after}
use Rattle.run_rules.specs.Lawful.{IsPlace, MayHappen, MayTurn, MayStart, IsOwed, IsNode, History, IsLawfulRun, facts_at}
use Rattle.run_base_laws.specs.RunEvents.{with_event, wrote_event, lives_at, with_record, with_happening, events_after, events_of}
use Rattle.run_branch_laws.specs.HeardLaws.{AnswersAre, AcksAre, QuietIs, AnswersAreTrue, AcksAreTrue, QuietsAreGone}
use Rattle.run_rules.proofs.ListLemmas.{all_weaker, all_map}
use Rattle.run_base_laws.proofs.LawfulLemmas.{serves}
use Rattle.node_rules.proofs.StepLemmas.{IsLive}
use Rattle.run_base_laws.proofs.OwnLemmas.{all_found}
use Rattle.run_base_laws.proofs.LaterLemmas.{Added, Any, added_on, added_wider, exit_later, wrote_added, turn_added, stop_added, messages_added, events_keep}
use Rattle.run_base_laws.proofs.SaidLemmas.{sent_after, came_said}
use Rattle.run_rules.proofs.AtNodeLemmas.{turn_elsewhere, turn_here, stop_elsewhere, stop_here, start_elsewhere, start_here}
use Rattle.run_base_laws.proofs.NodesStandLemmas.{lives_among}
use Rattle.run_base_laws.proofs.TurnEventLemmas.{cases_nat, all_both}
use Rattle.run_base_laws.proofs.EventsStandLemmas.{first_node, BranchStatus, stand_on, stand_first}
use Rattle.run_base_laws.proofs.BirthsStandLemmas.{came_so}
use Rattle.run_base_laws.proofs.OneTurn.{one_turn}
use Rattle.run_branch_laws.proofs.HeardLemmas.{Sent, later_answers, later_acks, risen_answers, HeardSo, answers_on, acks_on}
use Rattle.run_branch_laws.proofs.HeldAckLemmas.{acks_stored}
use Rattle.run_branch_laws.proofs.QuietLemmas.{Quits, QuitsSo, quits_on, quiet_there, quiet_leaves}

-- what a node holds of its neighbours is true
abbrev pub NodeHeard : List Event → NodeState → Type 0
NodeHeard t k = AllByRecursion (AnswersAre t k.clock) k.lives × AllByRecursion (AcksAre t) k.stored.durable.kept

-- What nodes hold of neighbours, and the answers without changes that are under way, are true.
pub record HeardStand (f : Facts) (t : List Event) : Type 0 where
  pub nodes : (n : ℕ) → IfSome (node_at f n) (NodeHeard t)
  pub quiets : AllByRecursion (λ x. QuietIs t x.msg.from x.msg.kind) f.net.packets

node_later : {Q : Event → Type 0} {t r : List Event} → Added Q t r → (o : Option NodeState) → IfSome o (NodeHeard t) → IfSome o (NodeHeard r)
node_later more None is = tt
node_later more (Some k) is = (later_answers more k.clock k.lives is.0, later_acks more k.stored.durable.kept is.1)

quiet_later : {Q : Event → Type 0} {t r : List Event} → Added Q t r → (from : BranchId) (kind : Kind) → QuietIs t from kind → QuietIs r from kind
quiet_later more from kinds.ReadOnly is = exit_later from Quiet more is
quiet_later more from _ is = tt

-- a node's clock has met the sender's
scn_met : (k : NodeState) (input : Input) (from to : BranchId) (kind : Kind) (came : Came input from to kind) → came.scn ≤ (heard k input).clock
scn_met k input from to kind came = subst (λ i. came.scn ≤ (heard k i).clock) (sym came.is) (omega arith)

heard_node : (t : List Event) (k : NodeState) (input : Input) → NodeHeard t k → NodeHeard t (heard k input)
heard_node t k (inputs.Message m) now = (risen_answers t k.clock (heard k (inputs.Message m)).clock (omega arith) k.lives now.0, now.1)
heard_node t k _ now = now

-- a kind by whether it is ReadOnly
quiet_by : (t : List Event) (from : BranchId) (kind : Kind) → (is_read_only kind ≡ true → exit t from ≡ Some Quiet) → QuietIs t from kind
quiet_by t from kinds.ReadOnly is = is refl
quiet_by t from _ is = tt

-- a live branch is among the live branches
pub live_among : (k : NodeState) (b : BranchId) → IsLive k b → is_among b (map live_id k.lives) ≡ true
live_among k b live =
    subst (λ m. is_among m (map live_id k.lives) ≡ true) (item_is live_id k.lives b live.0 live.1) (all_found (λ l. is_among l.me (map live_id k.lives) ≡ true) live_id k.lives b live.0 (lives_among k.lives) live.1)

pub heard_lives : (k : NodeState) (input : Input) (b : BranchId) → IsLive (heard k input) b → IsLive k b
heard_lives k (inputs.Message m) b live = live
heard_lives k (inputs.Call n s) b live = live
heard_lives k (inputs.GiveUp n) b live = live
heard_lives k inputs.Reco b live = live
heard_lives k inputs.Checkpoint b live = live

module _ (places : List Place) (asked : List Command) (each : (n : ℕ) (p : Place) → numbered places n ≡ Some p → IsPlace places n p) where
  module _ (f : Facts) (t : List Event) (stand : BranchStatus places asked each f t) (now : HeardStand f t) where
    -- ---- a turn

    module _ (u : Turn) (k : NodeState) (may : MayTurn places f u k) where
      open one_turn places asked f u k use {n, p, d, g}

      abbrev r : List Event
      r = with_happening f g (happenings.Turn u) t

      added : Added Any t r
      added = added_on (wrote_added u t) (added_wider (λ e is. tt) (turn_added f g u t))

      here : node_at g n ≡ kept_after u.cut (Some (turn_of p k u.input))
      here = (turn_here places asked f stand.0.even u k may.up).0

      -- what is known of an answer or an Ack that comes
      heard_so : (from to : BranchId) (kind : Kind) → Came u.input from to kind → HeardSo t (heard k u.input).clock from to kind
      heard_so from to kinds.Prepared came = (came.scn, came_said f t stand.2 k u.node u.input u.took may.comes from to kinds.Prepared came, scn_met k u.input from to kinds.Prepared came)
      heard_so from to kinds.ReadOnly came = came_so (λ x y kind. QuietIs t x kind) f now.quiets k u.node u.input u.took may.comes from to kinds.ReadOnly came
      heard_so from to kinds.Ack came = came_said f t stand.2 k u.node u.input u.took may.comes from to kinds.Ack came
      heard_so from to _ came = tt

      before : NodeHeard t (heard k u.input)
      before = heard_node t k u.input (subst (λ o. IfSome o (NodeHeard t)) may.up (now.nodes n))

      after : NodeHeard t d.after
      after =
          let step = (serves places f u k may).step in
          (answers_on t (heard k u.input).clock p u.input heard_so step (omega arith) before.0, acks_on t (heard k u.input).clock p u.input heard_so step before.1)

      kept_node : (cut : Bool) → IfSome (kept_after cut (Some (turn_of p k u.input))) (NodeHeard t)
      unfolding turn_of
      kept_node true = tt
      kept_node false = after

      nodes_after : (m : ℕ) → IfSome (node_at g m) (NodeHeard t)
      nodes_after m = elim (cases_nat m n) [
        | inl at ↦ subst (λ i. IfSome (node_at g i) (NodeHeard t)) (sym at) (subst (λ o. IfSome o (NodeHeard t)) (sym here) (kept_node u.cut))
        | inr other ↦ subst (λ o. IfSome o (NodeHeard t)) (sym (turn_elsewhere places asked f stand.0.even u m (λ e. other (sym e))).0) (now.nodes m)
      ]

      -- ---- what it says

      quits : AllByRecursion (QuitsSo u.input (heard k u.input) d) d.says
      quits = quits_on p u.input (serves places f u k may).step

      none_yet : (b : BranchId) → IsLive k b → exit t b ≡ None
      none_yet b live =
          subst (λ m. exit t m ≡ None) (item_is live_id k.lives b live.0 live.1)
          (all_found (λ l. exit t l.me ≡ None) live_id k.lives b live.0 (subst (λ o. IfSome o (λ x. AllByRecursion (λ l. exit t l.me ≡ None) x.lives)) may.up (stand.1.lives n)) live.1)

      -- a branch that says ReadOnly has that exit
      quit_exit : u.cut ≡ false → u.wrote ≡ d.wrote → (b : BranchId) → Quits u.input (heard k u.input) d b → list_any (is_quiet b) u.sent ≡ true → exit r b ≡ Some Quiet
      unfolding turn_of
      quit_exit cut wrote b q quiet =
          let live : IsLive k b = heard_lives k u.input b q.was in
          let up : node_at g n ≡ Some d.after = here ∙ ap (λ c. kept_after c (Some (turn_of p k u.input))) cut in
          let was : is_among b (lives_at (node_at f n)) ≡ true = subst (λ o. is_among b (lives_at o) ≡ true) (sym may.up) (live_among k b live) in
          let gone : is_among b (lives_at (node_at g n)) ≡ false = subst (λ o. is_among b (lives_at o) ≡ false) (sym up) q.left in
          let none : exit (with_record u t) b ≡ None = subst (λ w. exit (with_event (wrote_event n w) t) b ≡ None) (sym (wrote ∙ q.unwritten)) (none_yet b live) in
          exit_later b Quiet (messages_added [] [] u.sent _) (quiet_leaves b (lives_at (node_at g n)) u.sent (lives_at (node_at f n)) (with_record u t) none was gone quiet)

      said_so : (cut : Bool) → u.cut ≡ cut → IsOwed p k u.input u.wrote u.sent cut → AllByRecursion (λ m. QuietIs r m.from m.kind) u.sent
      unfolding turn_of
      said_so true cut owed = subst (λ (ms : List Msg). AllByRecursion (λ m. QuietIs r m.from m.kind) ms) (sym owed.1) tt
      said_so false cut owed =
          let sent : AllByRecursion (λ m. is_read_only m.kind ≡ true → Quits u.input (heard k u.input) d m.from) u.sent
          = subst (λ (ms : List Msg). AllByRecursion (λ m. is_read_only m.kind ≡ true → Quits u.input (heard k u.input) d m.from) ms) (sym owed.1)
          (all_map (λ (m : Msg). is_read_only m.kind ≡ true → Quits u.input (heard k u.input) d m.from) (stamped d.after.clock) d.says quits) in
          all_weaker _ _ (λ m both. quiet_by r m.from m.kind (λ yes. quit_exit cut owed.0 m.from (both.0 yes) (both.1 yes))) u.sent (all_both _ _ u.sent sent (quiet_there u.sent))

      pub turn_heard : HeardStand g r
      turn_heard = record {
        nodes = λ m. node_later added (node_at g m) (nodes_after m);
        quiets = sent_after (λ m. QuietIs r m.from m.kind) places asked f (happenings.Turn u) (said_so u.cut refl may.owed)
            (all_weaker _ _ (λ x is. quiet_later added x.msg.from x.msg.kind is) f.net.packets now.quiets);
      }

    -- ---- stops and starts

    module _ (m : ℕ) (place : IsNode (length places) m) where
      abbrev stopped : Facts
      stopped = facts_after places asked f (happenings.Stopped m)

      abbrev rest : List Event
      rest = with_happening f stopped (happenings.Stopped m) t

      stop_node : (i : ℕ) → IfSome (node_at stopped i) (NodeHeard t)
      stop_node i = elim (cases_nat i m) [
        | inl at ↦ subst (λ j. IfSome (node_at stopped j) (NodeHeard t)) (sym at)
            (subst (λ o. IfSome o (NodeHeard t)) (sym (stop_here places asked f stand.0.even m place.0 (omega (arith, place.1, stand.1.many))).0) tt)
        | inr other ↦ subst (λ o. IfSome o (NodeHeard t)) (sym (stop_elsewhere places asked f stand.0.even m i (λ e. other (sym e))).0) (now.nodes i)
      ]

      pub stop_heard : HeardStand stopped rest
      stop_heard = record {
        nodes = λ i. node_later (stop_added f stopped m t) (node_at stopped i) (stop_node i);
        quiets = sent_after (λ x. QuietIs rest x.from x.kind) places asked f (happenings.Stopped m) tt
            (all_weaker _ _ (λ x is. quiet_later (stop_added f stopped m t) x.msg.from x.msg.kind is) f.net.packets now.quiets);
      }

    module _ (m boot : ℕ) (may : MayStart (length places) f m boot) where
      abbrev begun : Facts
      begun = facts_after places asked f (happenings.Started m boot)

      start_so : (zs : List RedoRecord) → NodeHeard t (start_of zs)
      unfolding start_of
      start_so zs = (tt, acks_stored (Sent t) nothing_stored zs tt)

      start_node : (i : ℕ) → IfSome (node_at begun i) (NodeHeard t)
      start_node i = elim (cases_nat i m) [
        | inl at ↦ subst (λ j. IfSome (node_at begun j) (NodeHeard t)) (sym at)
            (subst (λ o. IfSome o (NodeHeard t)) (sym (start_here places asked f stand.0.even m boot may.there.0 (omega (arith, may.there.1, stand.1.many))).0) (start_so (with_boot f m boot)))
        | inr other ↦ subst (λ o. IfSome o (NodeHeard t)) (sym (start_elsewhere places asked f stand.0.even m boot i (λ e. other (sym e))).0) (now.nodes i)
      ]

      pub start_heard : HeardStand begun t
      start_heard = record { nodes = start_node; quiets = sent_after (λ x. QuietIs t x.from x.kind) places asked f (happenings.Started m boot) tt now.quiets }

    -- ---- every happening

    still_heard : (h : Happening) → AllByRecursion (λ x. QuietIs t x.msg.from x.msg.kind) (facts_after places asked f h).net.packets → ((i : ℕ) → node_at (facts_after places asked f h) i ≡ node_at f i) → HeardStand (facts_after places asked f h) t
    still_heard h said same = record { nodes = λ i. subst (λ o. IfSome o (NodeHeard t)) (sym (same i)) (now.nodes i); quiets = said }

    abbrev SentSo : Msg → Type 0
    SentSo x = QuietIs t x.from x.kind

    pub heard_on : (h : Happening) → MayHappen places asked f h → HeardStand (facts_after places asked f h) (events_after places asked f h t)
    unfolding facts_after
    heard_on (happenings.Turn u) may = turn_heard u may.0 may.1
    heard_on (happenings.Stopped m) may = stop_heard m may.0
    heard_on (happenings.Started m boot) may = start_heard m boot may
    heard_on (happenings.Begun c) may = still_heard (happenings.Begun c) (sent_after SentSo places asked f (happenings.Begun c) tt now.quiets) (λ i. refl)
    heard_on (happenings.Cut a b) may = still_heard (happenings.Cut a b) (sent_after SentSo places asked f (happenings.Cut a b) tt now.quiets) (λ i. refl)
    heard_on (happenings.Join a b) may = still_heard (happenings.Join a b) (sent_after SentSo places asked f (happenings.Join a b) tt now.quiets) (λ i. refl)
    heard_on (happenings.Lost k) may = still_heard (happenings.Lost k) (sent_after SentSo places asked f (happenings.Lost k) tt now.quiets) (λ i. refl)

  -- ---- every run

  made_heard : NodeHeard [] made
  unfolding start_of
  made_heard = (tt, acks_stored (Sent []) nothing_stored (records.Boot 1 ∷ []) tt)

  abbrev pub StandHeard : Facts → List Event → Type 0
  StandHeard f t = BranchStatus places asked each f t × HeardStand f t

  pub stand_heard_on : (f : Facts) (t : List Event) (h : Happening) → StandHeard f t → MayHappen places asked f h → StandHeard (facts_after places asked f h) (events_after places asked f h t)
  stand_heard_on f t h now may = (stand_on places asked each f t h now.0 may, heard_on f t now.0 now.1 h may)

  pub stand_heard_first : StandHeard (first_facts places) []
  stand_heard_first = (stand_first places asked each, record { nodes = λ n. first_node (λ o. IfSome o (NodeHeard [])) tt made_heard places n; quiets = tt })

pub run_heard : (t : History) → IsLawfulRun t → StandHeard t.places t.commands t.of_a_script.each (facts_at t) (events_of t)
run_heard t lawful =
    events_keep t.places t.commands (StandHeard t.places t.commands t.of_a_script.each) (stand_heard_on t.places t.commands t.of_a_script.each) (first_facts t.places) t.trace []
    (stand_heard_first t.places t.commands t.of_a_script.each) lawful

pub answers_are_true : AnswersAreTrue
answers_are_true t lawful n k up = (subst (λ o. IfSome o (NodeHeard (events_of t))) up ((run_heard t lawful).1.nodes n)).0

pub acks_are_true : AcksAreTrue
acks_are_true t lawful n k up = (subst (λ o. IfSome o (NodeHeard (events_of t))) up ((run_heard t lawful).1.nodes n)).1

pub quiets_are_gone : QuietsAreGone
quiets_are_gone t lawful = (run_heard t lawful).1.quiets
