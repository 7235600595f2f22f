-- While a command goes well with HOLD off, and nothing but the one call of its session is pending: the next happening is the
-- delivery of the first message in flight, or that call is given up.
use Rattle.std.proofs.Common.{◌≡◌, ℕ, ◌+◌, ◌⊎◌, Bool, true, false, if◌then◌else◌, List, [], ◌∷◌, ◌++◌, length, Option, Some, None, inl, inr, refl, sym, ap, subst, ◌∙◌}
use Rattle.std.specs.Prelude.{nat_lt}
use Rattle.std.specs.List.{AllByRecursion}
use Rattle.node_rules.specs.Data.{Input, Place, Stmt}
use Rattle.node_rules.specs.Data.inputs
use Rattle.node_rules.specs.declared.session.Finished.{Finished}
use Rattle.node_rules.specs.NodeState.{NodeState, TurnOutput}
use Rattle.net_bag.specs.Net.{first_flying, packet_at}
use Rattle.run_rules.specs.Calls.{is_call_at, call_at, without_call, ends_or_follows, finished_call, finished}
use Rattle.run_rules.specs.Cuts.{turn_appends}
use Rattle.run_rules.specs.Data.{Command, Happening, Turn}
use Rattle.run_rules.specs.Data.happenings
use Rattle.run_rules.specs.Due.{Tells, Delivers, Begins, Ends, next_command, next_give_up, next_delivery, due_of, happens, comes_next, IsTheRun}
use Rattle.run_rules.specs.Facts.{node_at, outcome_at}
use Rattle.run_rules.specs.Reported.{IsBetweenCommands}
use Rattle.run_rules.specs.Lines.{says_node, spent}
use Rattle.run_rules.specs.Past.{delivered_more, is_call, without_following, ends_calls, report_turned, next, past}
use Rattle.run_rules.specs.RunReport.{Call, Past, RunReport}
use Rattle.run_ready_laws.proofs.PendingLemmas.{found_so, line_same}
use Rattle.answer_origin_laws.proofs.ComeLemmas.{input_same}
use Rattle.run_claims.specs.CommitCourse.{GoesWell}
use Rattle.run_claims.specs.Undisturbed.{is_create}
use Rattle.answer_origin_laws.proofs.WayLemmas.{turn_before, turn_way, finished_so}
use Rattle.answer_origin_laws.proofs.DueLemmas.{turn_is, delivery_is, told_first, flow_due}

-- a turn that is whole
abbrev pub IsWholeTurn : Happening → Type 0
IsWholeTurn (happenings.Turn u) = u.cut ≡ false
IsWholeTurn _ = ⊥

-- it is no CREATE
abbrev pub IsNoCreate : Happening → Type 0
IsNoCreate (happenings.Turn u) = is_create u.input ≡ false
IsNoCreate _ = Unit {0}

-- nor is what is no call
pub no_create : (input : Input) → is_call input ≡ false → is_create input ≡ false
no_create (inputs.Call n s) is = absurd cc
no_create (inputs.Message m) is = refl
no_create (inputs.GiveUp n) is = refl
no_create inputs.Reco is = refl
no_create inputs.Checkpoint is = refl

-- ---- the one call

module _ (node session : ℕ) where
  -- a call of this session, which none follows
  abbrev pub IsItsCall : Call → Type 0
  IsItsCall c = (is_call_at node session c ≡ true) × (c.follows ≡ None)

  -- No other call is pending, and none follows.
  pub record HasOne (t : RunReport) : Type 0 where
    pub calls : AllByRecursion IsItsCall t.calls
    pub alone : t.next_call ≡ None

  module _ (running : ℕ) where
    ends_alone : (t : RunReport) (c : Call) (f : Finished) (o : Option Stmt) → o ≡ None → t.next_call ≡ None → (ends_or_follows running t c f o).next_call ≡ None
    ends_alone t c f None is alone = (line_same running (without_call t c.node c.session) c.command (says_node f)).next_call ∙ alone
    ends_alone t c f (Some s) is alone = absurd cc

    call_alone : (t : RunReport) (f : Finished) (o : Option Call) → ((c : Call) → o ≡ Some c → c.follows ≡ None) → t.next_call ≡ None → (finished_call running t f o).next_call ≡ None
    call_alone t f None last alone = alone
    call_alone t f (Some c) last alone = ends_alone t c f c.follows (last c refl) alone

    pub one_ends : (m : ℕ) (t : RunReport) (f : Finished) → HasOne t → HasOne (finished_call running t f (call_at t m f.session))
    one_ends m t f one = record {
      calls = finished_so IsItsCall (λ c s so. (so.0, refl)) running m t (f ∷ []) one.calls;
      alone = call_alone t f (call_at t m f.session) (λ c at. (found_so IsItsCall (is_call_at m f.session) t.calls c one.calls at).0.1) one.alone;
    }

    pub one_finished : (m : ℕ) (t : RunReport) (fs : List Finished) → HasOne t → HasOne (finished running t m fs)
    one_finished m t [] one = one
    one_finished m t (f ∷ fs) one = one_finished m (finished_call running t f (call_at t m f.session)) fs (one_ends m t f one)

    pub one_after : (t : RunReport) (u : Turn) (cut : Bool) (o : Option TurnOutput) → HasOne t → HasOne (ends_calls running t u cut o)
    one_after t u true o one = one
    one_after t u false None one = one
    one_after t u false (Some o) one =
        let v : RunReport = finished running t u.node o.ended in
        let ended : HasOne v = one_finished u.node t o.ended one in
        let same = input_same v running u.node u.input in
        record { calls = subst (AllByRecursion IsItsCall) (sym same.0) ended.calls; alone = same.1 ∙ ended.alone }

    pub one_before : (k : Option NodeState) (t : RunReport) (u : Turn) (o : Option TurnOutput) → HasOne t → HasOne (without_following (delivered_more (turn_appends t u.node u.input k o) u.took) u.input)
    one_before k t u o one = let before = turn_before t u.node u.input k o u.took in record { calls = subst (AllByRecursion IsItsCall) (sym before.calls) one.calls; alone = before.next_call one.alone }

    pub one_turn : (k : Option NodeState) (t : RunReport) (u : Turn) (o : Option TurnOutput) → HasOne t → HasOne (report_turned running k t u o)
    one_turn k t u o one =
        let after = one_after (without_following (delivered_more (turn_appends t u.node u.input k o) u.took) u.input) u u.cut o (one_before k t u o one) in record { calls = after.calls; alone = after.alone }

  -- ---- the flow

  -- With HOLD off the deliveries of a command go on.
  pub record Flows (p : Past) : Type 0 where
    pub acted : p.run_report.acted ≡ true
    pub off : p.run_report.hold ≡ false
    pub stands : p.run_report.start_to_stop ≡ None
    pub upright : p.facts.node_to_stop ≡ None
    pub one : HasOne p.run_report

  -- What comes next: a delivery, or a give-up where there is none to make.
  pub data Comes (p : Past) : Happening → Type 0 where
    Delivery : (k : ℕ) (u : Turn) → first_flying p.facts.net ≡ Some k → spent p.run_report.deliveries ≡ false → is_call u.input ≡ false → u.cut ≡ false → u.took ≡ Some (record { number = k; again = false }) → Comes p (happenings.Turn u)
    Give_up : (u : Turn) (c : Call) (cs : List Call) → p.run_report.calls ≡ c ∷ cs → (first_flying p.facts.net ≡ None) ⊎ (spent p.run_report.deliveries ≡ true) → is_call u.input ≡ false → u.cut ≡ false → Comes p (happenings.Turn u)

  module _ (places : List Place) (asked : List Command) where
    pub flows_turn : (p : Past) (u : Turn) → p.run_report.hold ≡ false → p.run_report.start_to_stop ≡ None → HasOne p.run_report → u.cut ≡ false → Flows (next places asked p (happenings.Turn u))
    unfolding next
    flows_turn p u off stands one whole =
        let o : Option TurnOutput = outcome_at places p.facts u in
        let way = turn_way p.facts.command (node_at p.facts u.node) p.run_report u o in record {
          acted = way.acted;
          off = way.hold ∙ off;
          stands = way.start ∙ stands;
          upright = ap (λ q. if q then Some u.node else None) whole;
          one = one_turn p.facts.command (node_at p.facts u.node) p.run_report u o one;
        }

    module _ (p : Past) where
      open p use {facts as f, run_report as t}

      -- where nothing is to be delivered
      module _ (why : (first_flying f.net ≡ None) ⊎ (spent t.deliveries ≡ true)) where
        command_comes : (q : Bool) (h : Happening) → GoesWell h → happens places p (if q then Begins (f.command + 1) else Ends) ≡ Some h → Comes p h
        command_comes true h well is =
            let it : Some (happenings.Begun (f.command + 1)) ≡ Some h = is in
            let same : happenings.Begun (f.command + 1) ≡ h = cc in
            absurd (subst GoesWell (sym same) well)
        command_comes false h well is = absurd cc

        give_up_comes : (cs : List Call) → t.calls ≡ cs → (h : Happening) → GoesWell h → happens places p (next_give_up asked f cs) ≡ Some h → Comes p h
        give_up_comes [] at h well is = command_comes (nat_lt f.command (length asked)) h well is
        give_up_comes (c ∷ cs) at h well is = turn_is (λ g. GoesWell g → Comes p g) places p c.node (inputs.GiveUp c.session) None (node_at f c.node) h (λ u input took so. Give_up u c cs at why (ap is_call input) so) is well

        give_up_between : (cs : List Call) → t.calls ≡ cs → IsBetweenCommands (next_give_up asked f cs) → t.calls ≡ []
        give_up_between [] at is = at
        give_up_between (c ∷ cs) at is = absurd is

      pub delivery_comes : (o : Option ℕ) → first_flying f.net ≡ o → (h : Happening) → GoesWell h → happens places p (next_delivery asked f t o) ≡ Some h → Comes p h
      delivery_comes None at h well is = give_up_comes (inl at) t.calls refl h well is
      delivery_comes (Some k) at h well is = by (spent t.deliveries) refl is
        where
          by : (q : Bool) → spent t.deliveries ≡ q → happens places p (if q then next_give_up asked f t.calls else Delivers k false) ≡ Some h → Comes p h
          by true all due = give_up_comes (inr all) t.calls refl h well due
          by false more due = delivery_is (λ g. GoesWell g → Comes p g) places p k false (packet_at f.net k) h (λ u other took so. Delivery k u at more other so took) due well

      pub delivery_between : (o : Option ℕ) → first_flying f.net ≡ o → IsBetweenCommands (next_delivery asked f t o) → ((first_flying f.net ≡ None) ⊎ (spent t.deliveries ≡ true)) × (t.calls ≡ [])
      delivery_between None at is = (inl at, give_up_between (inl at) t.calls refl is)
      delivery_between (Some k) at is = by (spent t.deliveries) refl is
        where
          by : (q : Bool) → spent t.deliveries ≡ q → IsBetweenCommands (if q then next_give_up asked f t.calls else Delivers k false) → ((first_flying f.net ≡ None) ⊎ (spent t.deliveries ≡ true)) × (t.calls ≡ [])
          by true all due = (inr all, give_up_between (inr all) t.calls refl due)
          by false more due = absurd due

      module _ (flow : Flows p) where
        due_now : f.losses_to_report ≡ [] → due_of asked p ≡ next_delivery asked f t (first_flying f.net)
        due_now told = flow_due places asked p told flow.upright flow.stands flow.one.alone flow.acted flow.off

        tells_now : (k : ℕ) (ks : List ℕ) → f.losses_to_report ≡ k ∷ ks → due_of asked p ≡ Tells k
        tells_now k ks at = told_first places asked p k ks at

        pub comes_so : (h : Happening) → GoesWell h → comes_next places asked p ≡ Some h → (f.losses_to_report ≡ []) × Comes p h
        comes_so h well is = by f.losses_to_report refl
          where
            by : (ks : List ℕ) → f.losses_to_report ≡ ks → (ks ≡ []) × Comes p h
            by [] told = (refl, delivery_comes (first_flying f.net) refl h well (ap (happens places p) (sym (due_now told)) ∙ is))
            by (k ∷ ks) told =
                let it : Some (happenings.Lost k) ≡ Some h = ap (happens places p) (sym (tells_now k ks told)) ∙ is in
                let same : happenings.Lost k ≡ h = cc in
                absurd (subst GoesWell (sym same) well)

        -- a command that is done
        pub between_so : IsBetweenCommands (due_of asked p) → ((first_flying f.net ≡ None) ⊎ (spent t.deliveries ≡ true)) × (t.calls ≡ [])
        between_so is = by f.losses_to_report refl
          where
            by : (ks : List ℕ) → f.losses_to_report ≡ ks → ((first_flying f.net ≡ None) ⊎ (spent t.deliveries ≡ true)) × (t.calls ≡ [])
            by [] told = delivery_between (first_flying f.net) refl (subst IsBetweenCommands (due_now told) is)
            by (k ∷ ks) told = absurd (subst IsBetweenCommands (tells_now k ks told) is)

        -- where nothing is in flight and no call is pending, the next command is due
        pub end_due : f.losses_to_report ≡ [] → first_flying f.net ≡ None → t.calls ≡ [] → due_of asked p ≡ next_command asked f
        end_due told none calls = due_now told ∙ (ap (next_delivery asked f t) none ∙ ap (next_give_up asked f) calls)

    -- ---- all of it

    -- What a turn that comes leaves.
    pub record Further (p : Past) (h : Happening) : Type 0 where
      pub whole : IsWholeTurn h
      pub own : IsNoCreate h
      pub flow : Flows (next places asked p h)

    pub further : (p : Past) (h : Happening) → Flows p → Comes p h → Further p h
    further p _ flow (Delivery k u at few other whole took) = record { whole = whole; own = no_create u.input other; flow = flows_turn p u flow.off flow.stands flow.one whole }
    further p _ flow (Give_up u c cs at why other whole) = record { whole = whole; own = no_create u.input other; flow = flows_turn p u flow.off flow.stands flow.one whole }

    -- What the happenings of a command leave that goes well.
    pub record Course (p : Past) (hs : List Happening) : Type 0 where
      pub whole : AllByRecursion IsWholeTurn hs
      pub own : AllByRecursion IsNoCreate hs
      pub flow : Flows (past places asked p hs)

    pub course : (p : Past) (hs later : List Happening) → Flows p → IsTheRun places asked p (hs ++ later) → AllByRecursion GoesWell hs → Course p hs
    unfolding past IsTheRun
    course p [] later flow run well = record { whole = tt; own = tt; flow = flow }
    course p (h ∷ hs) later flow run well =
        let on : Further p h = further p h flow (comes_so p flow h well.0 run.0).1 in
        let rest : Course (next places asked p h) hs = course (next places asked p h) hs later on.flow run.1 well.1 in
        record { whole = (on.whole, rest.whole); own = (on.own, rest.own); flow = rest.flow }
