-- In every lawful run the forest allows each Ack: its sender learned the commit and all beyond acknowledged, or it is gone and a commit
-- was told it.
use Rattle.std.proofs.Common.{◌≡◌, ℕ, Bool, true, false, List, [], ◌∷◌, ◌++◌, Option, Some, None, inl, inr, refl, sym, subst}
use Rattle.std.specs.Prelude.{IfSome}
use Rattle.std.specs.List.{AllByRecursion}
use Rattle.session_tree.specs.Live.{is_branch}
use Rattle.node_rules.specs.Data.{BranchId, Kind, Msg, RedoRecord, KeptRow, Input}
use Rattle.node_rules.specs.Data.decisions
use Rattle.node_rules.specs.Data.inputs
use Rattle.node_rules.specs.Data.kinds
use Rattle.node_rules.specs.Data.records
use Rattle.node_rules.specs.NodeState.{NodeState, TurnDraft}
use Rattle.node_rules.specs.Turn.{Is_gone, status_of, turn_of, heard, draft_of, stamped}
use Rattle.agreement.specs.Events.{Forest, Event, Beyond, Quiet, Dropped, Send_ack, Send_commit, Forget, learned, Cleared, Gone}
use Rattle.run_rules.specs.Data.{Turn, Happening}
use Rattle.run_rules.specs.Data.happenings
use Rattle.run_rules.specs.Facts.{Facts, first_facts, place_at, node_at, records_at}
use Rattle.run_rules.specs.Lawful.{MayTurn, MayHappen, IsOwed, History, IsLawfulRun}
use Rattle.run_base_laws.specs.RunEvents.{wrote_event, with_event, lives_at, with_record, with_exits}
use Rattle.run_base_laws.specs.EventRows.{RowsAre, MayStand}
use Rattle.run_base_laws.specs.EventLaws.{EachEventFrom}
use Rattle.run_rules.specs.Births.{births_of}
use Rattle.run_base_laws.specs.BirthLaws.{Began, KeptIs}
use Rattle.run_branch_laws.specs.TreeJust.{TreeAllows}
use Rattle.run_branch_laws.specs.RowSayLaws.{AckIs, SaysByRow, TellsByRow}
use Rattle.run_branch_laws.specs.TowardLaws.{IsRowLike, AllAcked}
use Rattle.run_rules.proofs.ListLemmas.{all_weaker, all_map, any_found}
use Rattle.run_branch_laws.proofs.GoneLemmas.{kept_not_gone}
use Rattle.run_base_laws.proofs.LawfulLemmas.{serves}
use Rattle.run_base_laws.proofs.LaterLemmas.{Added, Any, added_on, added_wider, exit_later, learned_later, has_later, wrote_added, leavers_added}
use Rattle.run_base_laws.proofs.RowEventLemmas.{learned_now}
use Rattle.run_base_laws.proofs.BirthRunLemmas.{nodes_name_the_born}
use Rattle.run_base_laws.proofs.EventsStandLemmas.{node_so, run_stands, tells_so, nodes_are_as_events}
use Rattle.run_branch_laws.proofs.RowSayStandLemmas.{turns_tell_by_rows}
use Rattle.run_branch_laws.proofs.TowardLemmas.{heard_rows}
use Rattle.run_base_laws.proofs.TurnEventLemmas.{all_both}
use Rattle.tree_laws.specs.FitLaws.{WritesInForest}
use Rattle.tree_laws.specs.Forests.{forest_of}
use Rattle.tree_laws.specs.MessageLaws.{DecidedAtSite, AckByForest, AcksByForest, AcksGoByForest}
use Rattle.tree_laws.specs.NameLaws.{RowNames, NodesName}
use Rattle.tree_laws.proofs.ClearLemmas.{not_back, row_cleared}
use Rattle.tree_laws.proofs.FitLemmas.{records_fit_forest}
use Rattle.tree_laws.proofs.ForestRunLemmas.{runs_have_forests}
use Rattle.tree_laws.proofs.LeadLemmas.{Leads}
use Rattle.tree_laws.proofs.LearnLemmas.{DisksLead, run_leads}
use Rattle.tree_laws.proofs.NameLemmas.{rows_name_beyond}
use Rattle.tree_laws.proofs.PrefixLemmas.{so_far, f_at, e_at, both_each, fact_each, each_prefix}
use Rattle.tree_laws.proofs.RecordForestLemmas.{row_toward}
use Rattle.tree_laws.proofs.RowLemmas.{RowLeads, rows_lead}
use Rattle.tree_laws.proofs.SettleRunLemmas.{all, ends, wider}
use Rattle.tree_laws.proofs.SiteLemmas.{sites_decide}
use Rattle.tree_laws.proofs.TellWhyLemmas.{LearnsCommit, AcksSo, Learns_it, Knows_it, Has_gone, TellsSo, tells_on}
use Rattle.tree_laws.proofs.AtTurn.{at_turn}

-- ---- a node that hears

pub gone_before : (k : NodeState) (input : Input) (b : BranchId) → status_of (heard k input) b ≡ Is_gone → status_of k b ≡ Is_gone
unfolding status_of
gone_before k (inputs.Message m) b gone = gone
gone_before k (inputs.Call n s) b gone = gone
gone_before k (inputs.GiveUp n) b gone = gone
gone_before k inputs.Reco b gone = gone
gone_before k inputs.Checkpoint b gone = gone

-- ---- more events

pub gone_later : {Q : Event → Type 0} {t r : List Event} → Added Q t r → (b : BranchId) → Gone t b → Gone r b
gone_later more b (inl is) = inl (exit_later b Dropped more is)
gone_later more b (inr (inl is)) = inr (inl (exit_later b Quiet more is))
gone_later more b (inr (inr (inl is))) = inr (inr (inl (learned_later b decisions.Rollback more is)))
gone_later more b (inr (inr (inr is))) = inr (inr (inr (has_later (Forget b) more is)))

cleared_later : (p : Forest) {Q : Event → Type 0} {t r : List Event} → Added Q t r → (b : BranchId) → Cleared p t b → Cleared p r b
cleared_later p more b is x edge = elim (is x edge) [ inl ack ↦ inl (has_later (Send_ack x b) more ack) | inr quiet ↦ inr (exit_later x Quiet more quiet) ]

-- what a turn adds before its messages
pub exits_added : (f g : Facts) (u : Turn) (t : List Event) → Added Any t (with_exits f g u t)
exits_added f g u t =
    added_on (wrote_added u t) (added_wider (λ e is. tt) (leavers_added (lives_at (node_at f u.node)) (lives_at (node_at g u.node)) u.sent (lives_at (node_at f u.node)) (with_record u t) (λ b is. is)))

-- its record teaches a commit
learned_by_record : (n : ℕ) (t : List Event) (w : Option RedoRecord) (b : BranchId) → IfSome w (MayStand t) → LearnsCommit w b → (m : ℕ) × (learned (with_event (wrote_event n w) t) b ≡ Some (decisions.Commit m))
learned_by_record n t (Some (records.Ended c (decisions.Commit m))) b stands is = (m, learned_now t c b (decisions.Commit m) None stands.1 (sym is))
learned_by_record n t (Some (records.Met c (decisions.Commit m) mixed)) b stands is = (m, learned_now t c b (decisions.Commit m) (Some mixed) stands.1 (sym is))
learned_by_record n t _ b stands is = absurd is

module _ (t : History) (whole : IsLawfulRun t) where
  abbrev p : Forest
  p = forest_of t

  -- what is known of each happening
  abbrev pub Told : Facts → List Event → Happening → Type 0
  Told f e h = ((WritesInForest p t.places f h × DecidedAtSite p e) × TellsByRow t.places t.commands f e h) × (NodesName p f e h × DisksLead (all t whole) f)

  module _ (before : List Happening) (u : Turn) (rest : List Happening) (is : before ++ happenings.Turn u ∷ rest ≡ t.trace) (lawful : IsLawfulRun (so_far t before)) (k : NodeState) (may : MayTurn t.places (f_at t before) u k)
      (law : Told (f_at t before) (e_at t before) (happenings.Turn u)) where
    open at_turn t whole before u rest is use {f, e, g}

    abbrev r : List Event
    r = with_exits f g u e

    abbrev ks : List KeptRow
    ks = k.stored.durable.kept

    abbrev d : TurnDraft
    d = draft_of (place_at t.places u.node) k u.input

    added : Added Any e r
    added = exits_added f g u e

    -- ---- what is known at the node

    pub rows : RowsAre e ks
    rows = (nodes_are_as_events (so_far t before) lawful u.node k may.up).1

    leads : AllByRecursion (RowLeads (all t whole)) ks
    leads = rows_lead (all t whole) k (records_at f u.node) (node_so t.places t.commands t.of_a_script.each f e (run_stands (so_far t before) lawful) u.node k may.up).stored (law.1.1 u.node)

    names : AllByRecursion (KeptIs (Began (births_of (so_far t before)))) ks
    names = (nodes_name_the_born (so_far t before) lawful u.node k may.up).1

    pub beyond_named : AllByRecursion (RowNames p e) ks
    beyond_named = law.1.0 u.node k may.up

    pub stands : IfSome u.wrote (MayStand e)
    stands = (tells_so t.places t.commands t.of_a_script.each f e (happenings.Turn u) (run_stands (so_far t before) lawful) (k, may)).0

    -- the neighbours beyond a branch are not the one that its row has as toward
    apart : (b : BranchId) (s : KeptRow) → IsRowLike ks b s → (x : BranchId) → Beyond p x b → is_branch x s.toward ≡ false
    apart b s like x edge = by s.toward refl
      where
        by : (o : Option BranchId) → s.toward ≡ o → is_branch x o ≡ false
        by None at = refl
        by (Some q) at =
            let lead : Leads (ends t whole) (all t whole) _ b q = row_toward t whole (births_of (so_far t before)) (wider t whole before u rest is) ks names leads b s like q at in
            not_back p (runs_have_forests t whole) x b q edge lead.member lead.not_site lead.toward

    cleared : (b : BranchId) (s : KeptRow) → IsRowLike ks b s → AllAcked e s → Cleared p r b
    cleared b s like acked = cleared_later p added b (row_cleared p (runs_have_forests t whole) e ks b s like beyond_named (apart b s like) acked)

    -- ---- an Ack

    row_not_gone : (b : BranchId) (s : KeptRow) → IsRowLike ks b s → status_of (heard k u.input) b ≡ Is_gone → ⊥
    row_not_gone b s like gone = kept_not_gone k b (any_found _ ks like.row like.stands) (gone_before k u.input b gone)

    learned_now_or : (b : BranchId) (x : BranchId) → Beyond p b x → (s : KeptRow) → IsRowLike ks b s → u.wrote ≡ d.wrote → AcksSo e (heard k u.input) d b → (n : ℕ) × (learned r b ≡ Some (decisions.Commit n))
    learned_now_or b x edge s like wrote (Learns_it now) =
        let it = learned_by_record u.node e u.wrote b stands (subst (λ w. LearnsCommit w b) (sym wrote) now) in
        (it.0, learned_later b (decisions.Commit it.0) (leavers_added (lives_at (node_at f u.node)) (lives_at (node_at g u.node)) u.sent (lives_at (node_at f u.node)) (with_record u e) (λ c at. at)) it.1)
    learned_now_or b x edge s like wrote (Knows_it n (inl decided)) = absurd (edge.not_site (law.0.0.1 b n decided))
    learned_now_or b x edge s like wrote (Knows_it n (inr learnt)) = (n, learned_later b (decisions.Commit n) added learnt)
    learned_now_or b x edge s like wrote (Has_gone gone) = absurd (row_not_gone b s like gone)

    ack_allowed : u.wrote ≡ d.wrote → (b x : BranchId) → AckIs e ks b x → AcksSo e (heard k u.input) d b → TreeAllows p r (Send_ack b x)
    ack_allowed wrote b x (inl row) why edge = let it = learned_now_or b x edge row.0 row.1 wrote why in inl (it.0, it.1, cleared b row.0 row.1 row.2)
    ack_allowed wrote b x (inr (inl gone, told)) why edge = inr (gone_later added b gone, (told.0, has_later (Send_commit x b told.0) added told.1))
    ack_allowed wrote b x (inr (inr decided, told)) why edge = absurd (edge.not_site (law.0.0.1 b decided.0 decided.1))

    kind_allowed : u.wrote ≡ d.wrote → (from to : BranchId) (kind : Kind) → SaysByRow e r ks from to kind → TellsSo e (heard k u.input) u.input d from to kind → AckByForest p r from to kind
    kind_allowed wrote from to kinds.Ack row why = ack_allowed wrote from to row why
    kind_allowed wrote from to _ row why = tt

    -- why each message is told
    pub whys : AllByRecursion (λ x. TellsSo e (heard k u.input) u.input d x.from x.to x.kind) d.says
    whys = tells_on e (heard k u.input) (place_at t.places u.node) u.input (serves t.places f u k may).step (λ direct. refl) (λ no. refl) (subst (λ xs. RowsAre e xs) (sym (heard_rows k u.input)) rows)

    pub acks_allowed : (cut : Bool) → IsOwed (place_at t.places u.node) k u.input u.wrote u.sent cut → AllByRecursion (λ m. AckByForest p r m.from m.to m.kind) u.sent
    unfolding turn_of
    acks_allowed true owed = subst (λ (ms : List Msg). AllByRecursion (λ m. AckByForest p r m.from m.to m.kind) ms) (sym owed.1) tt
    acks_allowed false owed =
        let why : AllByRecursion (λ m. TellsSo e (heard k u.input) u.input d m.from m.to m.kind) u.sent
        = subst (λ (ms : List Msg). AllByRecursion (λ m. TellsSo e (heard k u.input) u.input d m.from m.to m.kind) ms) (sym owed.1) (all_map (λ (m : Msg). TellsSo e (heard k u.input) u.input d m.from m.to m.kind) (stamped d.after.clock) d.says whys) in
        all_weaker _ _ (λ m both. kind_allowed owed.0 m.from m.to m.kind both.0 both.1) u.sent (all_both _ _ u.sent (law.0.1 k may.up) why)

  allowed_so : (before : List Happening) (h : Happening) (rest : List Happening) → before ++ h ∷ rest ≡ t.trace → IsLawfulRun (so_far t before) → MayHappen t.places t.commands (f_at t before) h
      → EachEventFrom Told t.places t.commands (f_at t before) (e_at t before) (h ∷ rest) → AcksByForest t (f_at t before) (e_at t before) h
  allowed_so before (happenings.Turn u) rest is lawful may laws = acks_allowed before u rest is lawful may.0 may.1 laws.0 u.cut may.1.owed
  allowed_so before _ rest is lawful may laws = tt

  pub told_each : EachEventFrom Told t.places t.commands (first_facts t.places) [] t.trace
  told_each =
      both_each t.places t.commands _ _ (first_facts t.places) [] t.trace
      (both_each t.places t.commands _ _ (first_facts t.places) [] t.trace
      (both_each t.places t.commands _ _ (first_facts t.places) [] t.trace (fact_each t.places t.commands (WritesInForest p t.places) (first_facts t.places) [] t.trace (records_fit_forest t whole)) (sites_decide t whole)) (turns_tell_by_rows t whole))
      (both_each t.places t.commands _ _ (first_facts t.places) [] t.trace (rows_name_beyond t whole) (run_leads t whole))

pub acks_go_by_forest : AcksGoByForest
acks_go_by_forest t lawful = each_prefix t (Told t lawful) (AcksByForest t) (allowed_so t lawful) lawful (told_each t lawful)
