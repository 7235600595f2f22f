-- A calm turn in which a rollback comes: what was so of undecided rows and live branches stays so.
use Rattle.std.proofs.Common.{◌≡◌, ◌≢◌, ℕ, ◌⊎◌, not, Bool, true, false, if◌then◌else◌, List, [], ◌∷◌, Option, Some, None, inl, inr, refl, sym, ap, subst, ◌∙◌, append-nil}
use Rattle.std.specs.List.{AllByRecursion}
use Rattle.std.proofs.lemmas.Bool.{cond_both, not-true}
use Rattle.tran_ids.proofs.BranchLemmas.{equal_from_same, same_from_equal}
use Rattle.tran_ids.proofs.ListedLemmas.{item_is, drop_leaves}
use Rattle.commit_forget.specs.Beyond.{is_neighbor}
use Rattle.net_bag.specs.Net.{lost_at_once}
use Rattle.session_tree.specs.Live.{is_branch, children_of}
use Rattle.node_rules.specs.Data.{BranchId, Decision, Kind, Live, Msg, Place, Post, KeptRow}
use Rattle.node_rules.specs.Data.decisions
use Rattle.node_rules.specs.Data.inputs
use Rattle.node_rules.specs.Data.kinds
use Rattle.node_rules.specs.Words.{same, item_at}
use Rattle.node_rules.specs.NodeState.{NodeState, Branch, TurnDraft, post_one, live_at, live_id, kept_row_at, kept_row_id, branch_at, work_at, with_work}
use Rattle.node_rules.specs.Prepare.{drops}
use Rattle.node_rules.specs.Turn.{draft_of, heard, kind_turn, status_of, live_or}
use Rattle.node_rules.proofs.StandLemmas.{live_so}
use Rattle.node_rules.proofs.StepLemmas.{branch_found}
use Rattle.run_rules.specs.Births.{Born, born_at, births_of}
use Rattle.run_base_laws.specs.BirthLaws.{Began, KeptIs}
use Rattle.run_rules.specs.Data.{Took, Turn}
use Rattle.run_rules.specs.Data.happenings
use Rattle.run_rules.specs.Facts.{Facts, place_at, node_at, taken, facts_after}
use Rattle.run_base_laws.specs.FreezeLaws.{was_asked}
use Rattle.run_base_laws.specs.InTurnLaws.{said_in}
use Rattle.run_rules.specs.Lawful.{MayTurn, History, IsLawfulRun}
use Rattle.run_rules.specs.Trail.{is_prepare}
use Rattle.run_base_laws.specs.EventRows.{RowIs, IsKnown}
use Rattle.run_base_laws.specs.RunEvents.{events_of}
use Rattle.agreement.specs.Events.{Sealed, exit}
use Rattle.run_rules.proofs.AtNodeLemmas.{turn_elsewhere}
use Rattle.run_base_laws.proofs.BirthRunLemmas.{nodes_name_the_born}
use Rattle.run_base_laws.proofs.EventsStandLemmas.{nodes_are_as_events}
use Rattle.run_rules.proofs.ListLemmas.{all_weaker, all_each, all_filter}
use Rattle.run_base_laws.proofs.OwnLemmas.{all_found}
use Rattle.run_base_laws.proofs.TurnEventLemmas.{all_both, cases_nat}
use Rattle.tree_laws.proofs.PrefixLemmas.{f_at}
use Rattle.commit_laws.proofs.ListLemmas.{IsIn}
use Rattle.settle_laws.specs.OverLaws.{is_rollback}
use Rattle.settle_laws.specs.Interval.{Flies, is_ask, is_point, is_decision, LivesAt, RowNamesAnother, Sought, Asks, Points, Is_told, In_doubt, Under_live, Watched, Asks_up, Is_rolled, Up_lives, Up_names, Unasked, Obliged}
use Rattle.settle_laws.proofs.CalmTurn.{calm}
use Rattle.settle_laws.proofs.UndecidedLemmas.{asked_above}
use Rattle.settle_laws.proofs.FlyLemmas.{in_map}
use Rattle.settle_laws.proofs.RecoTurnLemmas.{unasked_on}
use Rattle.settle_laws.proofs.AskTurnLemmas.{asked_child}
use Rattle.commit_forget_laws.proofs.FoundRowLemmas.{lives_found}
use Rattle.commit_forget_laws.proofs.FoundRowLemmas.{rows_found}
use Rattle.settle_laws.proofs.RowLemmas.{names_so, rows_hold, neighbor_off}
use Rattle.settle_laws.proofs.OverLemmas.{rollers_have_left}
use Rattle.settle_laws.specs.RowLaws.{RowHolds, NamesSo}
use Rattle.commit_forget.specs.declared.next.Beyond.{Beyond as Neighbor}
use Rattle.commit_forget.specs.Beyond.{beyond}
use Rattle.commit_forget.specs.Next.{next_on_decision, decision_at}
use Rattle.commit_forget.specs.declared.next.Next.TheVariants as nexts
use Rattle.redo_record.specs.Durable.{durable_after}
use Rattle.redo_record.specs.Kept.{stands_at, met_as, kept_after as rows_after}
use Rattle.node_rules.specs.Data.{RedoRecord, State}
use Rattle.node_rules.specs.Data.records
use Rattle.node_rules.specs.Data.states
use Rattle.node_rules.specs.Words.{change_where}
use Rattle.node_rules.specs.Records.{applied}
use Rattle.node_rules.specs.NodeState.{nothing}
use Rattle.node_rules.specs.Commit.{learns, next_turn, on_decision, rollback_to}
use Rattle.node_rules.specs.Turn.{BranchStatus, rollback_turn, rolled_back_turn}
use Rattle.agreement.specs.Events.{Forest}
use Rattle.run_base_laws.specs.EventRows.{IsForcedAs}
use Rattle.run_base_laws.proofs.EventsStandLemmas.{ids_name_their_node}
use Rattle.commit_laws.proofs.ListLemmas.{all_in}
use Rattle.commit_laws.proofs.NetLemmas.{numbered_all}
use Rattle.commit_forget_laws.proofs.TellLemmas.{rows_changed, rows_left}
use Rattle.commit_forget_laws.proofs.WayLemmas.{not_each_other}
use Rattle.tree_laws.proofs.FitRowLemmas.{RowFits, rows_fit}
use Rattle.tree_laws.specs.Forests.{forest_of}
use Rattle.tree_laws.proofs.TimeLemmas.{Part}

-- Rollback, or RolledBack
abbrev pub TellsRollback : Kind → Type 0
TellsRollback kind = (kind ≡ kinds.Rollback) ⊎ (kind ≡ kinds.RolledBack)

-- what it does
abbrev pub roll_turn : {kind : Kind} → TellsRollback kind → NodeState → BranchId → BranchStatus → TurnDraft
roll_turn (inl rollback) k from stand = rollback_turn k from stand
roll_turn (inr rolled_back) k from stand = rolled_back_turn k from stand

-- a row that is changed where it stands leaves those of other branches
pub change_leaves : (b : BranchId) (h : KeptRow → KeptRow) → ((x : KeptRow) → (h x).me ≡ x.me) → (ks : List KeptRow) (c : BranchId) → same b c ≡ false → item_at kept_row_id (change_where (stands_at b) h ks) c ≡ item_at kept_row_id ks c
change_leaves b h me [] c other = refl
change_leaves b h me (x ∷ xs) c other = by (same x.me b) refl (change_leaves b h me xs c other)
  where
    by : (q : Bool) → same x.me b ≡ q → item_at kept_row_id (change_where (stands_at b) h xs) c ≡ item_at kept_row_id xs c
        → item_at kept_row_id ((if same x.me b then h x else x) ∷ change_where (stands_at b) h xs) c ≡ item_at kept_row_id (x ∷ xs) c
    by true here rest =
        let off : same x.me c ≡ false = ap (λ z. same z c) (equal_from_same x.me b here) ∙ other in
        let off_h : same (h x).me c ≡ false = ap (λ z. same z c) (me x) ∙ off in
        ap (λ (w : Bool). item_at kept_row_id ((if w then h x else x) ∷ change_where (stands_at b) h xs) c) here
        ∙ (ap (λ (w : Bool). if w then Some (h x) else item_at kept_row_id (change_where (stands_at b) h xs) c) off_h
        ∙ (rest ∙ sym (ap (λ (w : Bool). if w then Some x else item_at kept_row_id xs c) off)))
    by false there rest =
        ap (λ (w : Bool). item_at kept_row_id ((if w then h x else x) ∷ change_where (stands_at b) h xs) c) there
        ∙ ap (λ (z : Option KeptRow). if same x.me c then Some x else z) rest

module _ (t : History) (s_lawful : IsLawfulRun t) (u : Turn) (k : NodeState) where
  abbrev pub f : Facts
  f = f_at t t.trace

  abbrev pub g : Facts
  g = facts_after t.places t.commands f (happenings.Turn u)

  module _ (may : MayTurn t.places f u k) (uncut : u.cut ≡ false) (none : lost_at_once (taken f.net u.took) u.sent ≡ []) (m : Msg) (it : u.input ≡ inputs.Message m) (told_turn : TellsRollback m.kind)
      (y : Took) (took : u.took ≡ Some y) where
    abbrev p : Place
    p = place_at t.places u.node

    abbrev k0 : NodeState
    k0 = heard k (inputs.Message m)

    abbrev d : TurnDraft
    d = roll_turn told_turn k0 m.from (status_of k0 m.to)

    draft_is : draft_of p k u.input ≡ d
    draft_is = ap (draft_of p k) it ∙ by told_turn
      where
        by : (w : TellsRollback m.kind) → kind_turn p k0 m.from m.to m.kind (status_of k0 m.to) ≡ roll_turn w k0 m.from (status_of k0 m.to)
        by (inl is) = ap (λ x. kind_turn p k0 m.from m.to x (status_of k0 m.to)) is
        by (inr is) = ap (λ x. kind_turn p k0 m.from m.to x (status_of k0 m.to)) is

    open calm t s_lawful u k may uncut none m it y took d draft_is use {even, comes, at_to, here, up_to, here_to, said_now, post_flies, flown}

    -- ---- what the turn does

    abbrev ks : List KeptRow
    ks = k.stored.durable.kept

    -- the record of a rollback that is learned
    data Learns (s : KeptRow) : RedoRecord → Type 0 where
      Ends : Learns s (records.Ended s.me decisions.Rollback)
      Meets : (mixed : Bool) → Learns s (records.Met s.me decisions.Rollback mixed)

    -- Nothing: no undecided row hears it from toward, and no live branch from its parent. Or a live branch is dropped; or an
    -- undecided row learns it from toward.
    data Result (x : TurnDraft) : Type 0 where
      Rests : ((s : KeptRow) → kept_row_at k m.to ≡ Some s → s.toward ≡ Some m.from → s.decision ≡ None → ⊥) → ((l : Live) → live_at k m.to ≡ Some l → l.parent ≡ Some m.from → ⊥) → x ≡ nothing k0 → Result x
      Dropped : (l : Live) → live_at k m.to ≡ Some l → x ≡ drops k0 l [] → Result x
      Learnt : (s : KeptRow) (r : RedoRecord) → kept_row_at k m.to ≡ Some s → s.toward ≡ Some m.from → Learns s r → x ≡ learns k0 s decisions.Rollback r → Result x

    row_exit : (s : KeptRow) → kept_row_at k m.to ≡ Some s → RowIs (events_of t) s
    row_exit s at = all_found (RowIs (events_of t)) kept_row_id ks m.to s (nodes_are_as_events t s_lawful u.node k may.up).1 at

    live_exit : (l : Live) → live_at k m.to ≡ Some l → exit (events_of t) l.me ≡ None
    live_exit l at = all_found (λ (x : Live). exit (events_of t) x.me ≡ None) live_id k.lives m.to l (nodes_are_as_events t s_lawful u.node k may.up).0 at

    -- not both
    not_both : (s : KeptRow) (l : Live) → kept_row_at k m.to ≡ Some s → live_at k m.to ≡ Some l → ⊥
    not_both s l row live = (row_exit s row).left (ap (exit (events_of t)) (item_is kept_row_id ks m.to s row ∙ sym (item_is live_id k.lives m.to l live)) ∙ live_exit l live)

    row_result : (s : KeptRow) → kept_row_at k m.to ≡ Some s → Result (on_decision k0 s m.from decisions.Rollback)
    unfolding next_on_decision
    row_result s at = by (is_branch m.from s.toward) refl s.decision refl s.state (row_exit s at).force
      where
        not_live : (l : Live) → live_at k m.to ≡ Some l → l.parent ≡ Some m.from → ⊥
        not_live l live parent = not_both s l at live

        this : (w : KeptRow) → kept_row_at k m.to ≡ Some w → w ≡ s
        this w found = (let both : Some w ≡ Some s = sym found ∙ at in cc)

        decided : (o : Decision) → s.decision ≡ Some o → (w : KeptRow) → kept_row_at k m.to ≡ Some w → w.toward ≡ Some m.from → w.decision ≡ None → ⊥
        decided o known w found toward undecided = (let its : s.decision ≡ None = ap (λ (z : KeptRow). z.decision) (sym (this w found)) ∙ undecided in absurd (cc (its, known)))

        by : (q : Bool) → is_branch m.from s.toward ≡ q → (o : Option Decision) → s.decision ≡ o → (st : State) → IsForcedAs (events_of t) s.me st s.decision
            → Result (next_turn k0 s m.from (if q then decision_at (record s { state = st }) decisions.Rollback o else nexts.Rest))
        by false off o known st force =
            Rests (λ w found toward undecided. (let on : is_branch m.from s.toward ≡ true = ap (is_branch m.from) (ap (λ (z : KeptRow). z.toward) (sym (this w found)) ∙ toward) ∙ same_from_equal m.from m.from refl in absurd (cc (on, off)))) not_live refl
        by true on (Some (decisions.Commit n)) known st force = Rests (decided (decisions.Commit n) known) not_live refl
        by true on (Some decisions.Rollback) known st force = Rests (decided decisions.Rollback known) not_live refl
        by true on None undecided states.Sealed force = Learnt s (records.Ended s.me decisions.Rollback) at (branch_found m.from s.toward on) Ends refl
        by true on None undecided states.Committed force = absurd (force undecided)
        by true on None undecided (states.ForcedCommit n) force = Learnt s (records.Met s.me decisions.Rollback true) at (branch_found m.from s.toward on) (Meets true) refl
        by true on None undecided states.ForcedRollback force = Learnt s (records.Met s.me decisions.Rollback false) at (branch_found m.from s.toward on) (Meets false) refl

    gone_result : branch_at k m.to ≡ None → kept_row_at k m.to ≡ None → Result (nothing k0)
    gone_result live row =
        Rests (λ s found toward undecided. absurd (cc (row, found)))
        (λ l found parent. (let some : branch_at k m.to ≡ Some (record { live = l; work = work_at k l.me }) = ap (with_work k) found in absurd (cc (some, live)))) refl

    result_by : (w : TellsRollback m.kind) (o : Option Branch) (q : Option KeptRow) → branch_at k m.to ≡ o → kept_row_at k m.to ≡ q → Result (roll_turn w k0 m.from (live_or o q))
    result_by (inl is) (Some x) q live row = Dropped x.live (live_so k m.to x live) refl
    result_by (inl is) None (Some s) live row = row_result s row
    result_by (inl is) None None live row = gone_result live row
    result_by (inr is) None (Some s) live row = row_result s row
    result_by (inr is) None None live row = gone_result live row
    result_by (inr is) (Some x) q live row = by (is_branch m.from x.live.parent) refl
      where
        found : live_at k m.to ≡ Some x.live
        found = live_so k m.to x live

        by : (b : Bool) → is_branch m.from x.live.parent ≡ b → Result (if is_branch m.from x.live.parent then drops k0 x.live [] else nothing k0)
        by true up = Dropped x.live found (ap (λ (w : Bool). if w then drops k0 x.live [] else nothing k0) up)
        by false other =
            Rests (λ s at toward undecided. not_both s x.live at found)
            (λ l at parent. (let both : Some l ≡ Some x.live = sym at ∙ found in let it : l ≡ x.live = cc in
            let up : is_branch m.from x.live.parent ≡ true = ap (is_branch m.from) (ap (λ (z : Live). z.parent) (sym it) ∙ parent) ∙ same_from_equal m.from m.from refl in absurd (cc (up, other))))
            (ap (λ (w : Bool). if w then drops k0 x.live [] else nothing k0) other)

    result : Result d
    unfolding status_of
    result = result_by told_turn (branch_at k m.to) (kept_row_at k m.to) refl refl

    -- ---- what it leaves

    -- an undecided row to which this is not told by toward
    abbrev NotTold : KeptRow → Type 0
    NotTold x = (e : BranchId) → x.decision ≡ None → x.toward ≡ Some e → m.to ≡ x.me → m.from ≡ e → ⊥

    apart_not : (b : BranchId) (x : KeptRow) → b ≡ m.to → same x.me b ≡ false → NotTold x
    apart_not b x me apart e undecided toward at from = (let yes_same : same x.me b ≡ true = same_from_equal x.me b (sym at ∙ sym me) in absurd (cc (yes_same, apart)))

    module _ (P Q : KeptRow → Type 0) (each : (x : KeptRow) → P x → NotTold x → Q x) (decided : (x : KeptRow) → (x.decision ≡ None → ⊥) → Q x) where
      abbrev Found : KeptRow → Type 0
      Found x = (item_at kept_row_id ks x.me ≡ Some x) × P x

      same_all : ((x : KeptRow) → item_at kept_row_id ks x.me ≡ Some x → NotTold x) → AllByRecursion Found ks → AllByRecursion Q ks
      same_all none_told all = all_weaker Found Q (λ x so. each x so.1 (none_told x so.0)) ks all

      its_row : (x : KeptRow) → item_at kept_row_id ks x.me ≡ Some x → m.to ≡ x.me → kept_row_at k m.to ≡ Some x
      its_row x found at = subst (λ b. kept_row_at k b ≡ Some x) (sym at) found

      learnt_all : (s : KeptRow) → s.me ≡ m.to → (r : RedoRecord) → Learns s r → AllByRecursion Found ks → AllByRecursion Q (applied k0.stored r).durable.kept
      unfolding applied durable_after rows_after
      learnt_all s me _ Ends all = rows_left Found Q (stands_at s.me) (λ x apart so. each x so.1 (apart_not s.me x me apart)) ks all
      learnt_all s me _ (Meets false) all = rows_left Found Q (stands_at s.me) (λ x apart so. each x so.1 (apart_not s.me x me apart)) ks all
      learnt_all s me _ (Meets true) all =
          rows_changed Found Q s.me (met_as decisions.Rollback true) (λ x at so. decided (met_as decisions.Rollback true x) (λ no_decision. absurd cc)) (λ x apart so. each x so.1 (apart_not s.me x me apart)) ks all

      rows_after_all : (x : TurnDraft) → Result x → AllByRecursion Found ks → AllByRecursion Q x.after.stored.durable.kept
      rows_after_all x (Rests none_row none_live is) all =
          subst (λ (z : TurnDraft). AllByRecursion Q z.after.stored.durable.kept) (sym is)
          (same_all (λ y found e undecided toward at from. none_row y (its_row y found at) (toward ∙ ap Some (sym from)) undecided) all)
      rows_after_all x (Dropped l live is) all =
          subst (λ (z : TurnDraft). AllByRecursion Q z.after.stored.durable.kept) (sym is) (same_all (λ y found e undecided toward at from. not_both y l (its_row y found at) live) all)
      rows_after_all x (Learnt s r row toward why is) all =
          subst (λ (z : TurnDraft). AllByRecursion Q z.after.stored.durable.kept) (sym is) (learnt_all s (item_is kept_row_id ks m.to s row) r why all)

    -- a row of another branch is found as before
    learnt_row : (s : KeptRow) (r : RedoRecord) → Learns s r → (b : BranchId) → same s.me b ≡ false → item_at kept_row_id (applied k0.stored r).durable.kept b ≡ item_at kept_row_id ks b
    unfolding applied durable_after rows_after
    learnt_row s _ Ends b other = drop_leaves kept_row_id ks s.me b other
    learnt_row s _ (Meets false) b other = drop_leaves kept_row_id ks s.me b other
    learnt_row s _ (Meets true) b other = change_leaves s.me (met_as decisions.Rollback true) (λ x. refl) ks b other

    -- a row that names a branch does so after, or it is the one that learned the rollback
    data NamesAfter (b z : BranchId) (r : RowNamesAnother f b z) : Type 0 where
      Still_names : (w : RowNamesAnother g b z) → w.row ≡ r.row → NamesAfter b z r
      Has_learnt : (s : KeptRow) (c : RedoRecord) → kept_row_at k m.to ≡ Some s → s.toward ≡ Some m.from → Learns s c → d ≡ learns k0 s decisions.Rollback c → b ≡ m.to → r.row ≡ s → NamesAfter b z r

    names_after : (b z : BranchId) (r : RowNamesAnother f b z) → NamesAfter b z r
    names_after b z r = elim (cases_nat u.node b.node) [
      | inr other ↦ Still_names (record { node = r.node; up = (turn_elsewhere t.places t.commands f even u b.node other).0 ∙ r.up; row = r.row; found = r.found; names = r.names }) refl
      | inl at ↦ (let both : Some k ≡ Some r.node = sym may.up ∙ subst (λ n. node_at f n ≡ Some r.node) (sym at) r.up in let same_node : k ≡ r.node = cc in
          at_node (subst (λ n. node_at g n ≡ Some d.after) at here) (subst (λ (z : NodeState). kept_row_at z b ≡ Some r.row) (sym same_node) r.found) result)
    ]
      where
        still : node_at g b.node ≡ Some d.after → kept_row_at d.after b ≡ Some r.row → NamesAfter b z r
        still up found = Still_names (record { node = d.after; up = up; row = r.row; found = found; names = r.names }) refl

        at_node : node_at g b.node ≡ Some d.after → kept_row_at k b ≡ Some r.row → Result d → NamesAfter b z r
        at_node up found (Rests none_row none_live is) = still up (ap (λ (x : TurnDraft). kept_row_at x.after b) is ∙ found)
        at_node up found (Dropped l live is) = still up (ap (λ (x : TurnDraft). kept_row_at x.after b) is ∙ found)
        at_node up found (Learnt s c row toward why is) = by (same s.me b) refl
          where
            me : s.me ≡ m.to
            me = item_is kept_row_id ks m.to s row

            by : (q : Bool) → same s.me b ≡ q → NamesAfter b z r
            by true that =
                let is_to : b ≡ m.to = sym (equal_from_same s.me b that) ∙ me in
                Has_learnt s c row toward why is is_to (let both_rows : Some r.row ≡ Some s = sym found ∙ (ap (kept_row_at k) is_to ∙ row) in cc)
            by false other = still up (ap (λ (x : TurnDraft). kept_row_at x.after b) is ∙ (learnt_row s c why b other ∙ found))

    -- a branch that is live is live after, or was dropped
    lives_on : (b : BranchId) → LivesAt f b → LivesAt g b ⊎ ((l : Live) × (live_at k m.to ≡ Some l) × (b ≡ m.to) × (d ≡ drops k0 l []))
    lives_on b x = elim (cases_nat u.node b.node) [
      | inr other ↦ inl (record { node = x.node; up = (turn_elsewhere t.places t.commands f even u b.node other).0 ∙ x.up; live = x.live; found = x.found })
      | inl at ↦ (let both : Some k ≡ Some x.node = sym may.up ∙ subst (λ n. node_at f n ≡ Some x.node) (sym at) x.up in let same_node : k ≡ x.node = cc in
          at_node (subst (λ n. node_at g n ≡ Some d.after) at here) (subst (λ (z : NodeState). live_at z b ≡ Some x.live) (sym same_node) x.found) result)
    ]
      where
        at_node : node_at g b.node ≡ Some d.after → live_at k b ≡ Some x.live → Result d → LivesAt g b ⊎ ((l : Live) × (live_at k m.to ≡ Some l) × (b ≡ m.to) × (d ≡ drops k0 l []))
        at_node up found (Rests none_row none_live is) = inl (record { node = d.after; up = up; live = x.live; found = ap (λ (z : TurnDraft). live_at z.after b) is ∙ found })
        at_node up found (Learnt s c row toward why is) = inl (record { node = d.after; up = up; live = x.live; found = ap (λ (z : TurnDraft). live_at z.after b) is ∙ found })
        at_node up found (Dropped l at is) = by (same m.to b) refl
          where
            me : l.me ≡ m.to
            me = item_is live_id k.lives m.to l at

            by : (q : Bool) → same m.to b ≡ q → LivesAt g b ⊎ ((c : Live) × (live_at k m.to ≡ Some c) × (b ≡ m.to) × (d ≡ drops k0 c []))
            by true that = inr (l, at, sym (equal_from_same m.to b that), is)
            by false other = inl (record {
              node = d.after;
              up = up;
              live = x.live;
              found = ap (λ (z : TurnDraft). live_at z.after b) is ∙ (drop_leaves live_id k.lives l.me b (ap (λ c. same c b) me ∙ other) ∙ found);
            })

    -- ---- messages

    tests_so : (test : Kind → Bool) → test kinds.Rollback ≡ false → test kinds.RolledBack ≡ false → test m.kind ≡ false
    tests_so test one other = by told_turn
      where
        by : TellsRollback m.kind → test m.kind ≡ false
        by (inl is) = ap test is ∙ one
        by (inr is) = ap test is ∙ other

    -- one that is no rollback flies on
    flies_on : (test : Kind → Bool) (a b : BranchId) → test kinds.Rollback ≡ false → test kinds.RolledBack ≡ false → Flies test f a b → Flies test g a b
    flies_on test a b one other fly = elim (flown test a b fly) [
      | inl on ↦ on
      | inr taken_one ↦ (let never = tests_so test one other in let it_does = taken_one.2 in absurd (cc (never, it_does)))
    ]

    -- a child of a branch that is dropped hears Rollback
    child_told : (test : Kind → Bool) → test kinds.Rollback ≡ true → (l : Live) → live_at k m.to ≡ Some l → d ≡ drops k0 l [] → (c : BranchId) → was_asked (said_in f) m.to c ≡ true → Flies test g m.to c
    child_told test rolls l at is c asked =
        let me : l.me ≡ m.to = item_is live_id k.lives m.to l at in
        let found : live_at k l.me ≡ Some l = subst (λ b. live_at k b ≡ Some l) (sym me) at in
        let child : IsIn c (children_of l) = asked_child t s_lawful u.node k may.up l found c (subst (λ b. was_asked (said_in f) b c ≡ true) (sym me) asked) in
        let said : IsIn (post_one l.me kinds.Rollback c) d.says
        = subst (λ (z : TurnDraft). IsIn (post_one l.me kinds.Rollback c) z.says) (sym is) (in_map (post_one l.me kinds.Rollback) c (children_of l) child) in
        subst (λ b. Flies test g b c) me (post_flies test (post_one l.me kinds.Rollback c) said rolls)

    -- a neighbour off toward hears the rollback that its row learned
    beyond_told : (test : Kind → Bool) → test kinds.Rollback ≡ true → test kinds.RolledBack ≡ true → (s : KeptRow) (c : RedoRecord) → kept_row_at k m.to ≡ Some s → d ≡ learns k0 s decisions.Rollback c → (z : BranchId)
        → is_neighbor s z ≡ true → is_branch z s.toward ≡ false → Flies test g m.to z
    beyond_told test rolls rolled s c row is z near off =
        let among : (x : Neighbor) × IsIn x (beyond s) × (x.branch ≡ z)
        = neighbor_off (λ b. (x : Neighbor) × IsIn x (beyond s) × (x.branch ≡ b)) z s off near (all_in (λ (x : Neighbor). (w : Neighbor) × IsIn w (beyond s) × (w.branch ≡ x.branch)) (beyond s) (λ x at. (x, at, refl))) in
        let said : IsIn (rollback_to s.me among.0) d.says = subst (λ (x : TurnDraft). IsIn (rollback_to s.me among.0) x.says) (sym is) (in_map (rollback_to s.me) among.0 (beyond s) among.1) in
        subst (λ b. Flies test g b z) (item_is kept_row_id ks m.to s row) (subst (Flies test g s.me) among.2 (post_flies test (rollback_to s.me among.0) said
        (cond_both among.0.is_parent kinds.RolledBack kinds.Rollback (λ x. test x ≡ true) (λ up. rolled) (λ down. rolls))))

    no_prepare : (x : TurnDraft) → Result x → AllByRecursion (λ (z : Post). is_prepare z.kind ≡ false) x.says
    no_prepare x (Rests none_row none_live is) = subst (λ (z : TurnDraft). AllByRecursion (λ (a : Post). is_prepare a.kind ≡ false) z.says) (sym is) tt
    no_prepare x (Dropped l at is) =
        subst (λ (z : TurnDraft). AllByRecursion (λ (a : Post). is_prepare a.kind ≡ false) z.says) (sym is) (all_each (λ (a : Post). is_prepare a.kind ≡ false) (post_one l.me kinds.Rollback) (children_of l) (λ b. refl))
    no_prepare x (Learnt s c row toward why is) =
        subst (λ (z : TurnDraft). AllByRecursion (λ (a : Post). is_prepare a.kind ≡ false) z.says) (sym is)
        (all_each (λ (a : Post). is_prepare a.kind ≡ false) (rollback_to s.me) (beyond s) (λ b. cond_both b.is_parent kinds.RolledBack kinds.Rollback (λ w. is_prepare w ≡ false) (λ up. refl) (λ down. refl)))

    unasked_still : (q z : BranchId) → was_asked (said_in f) q z ≡ false → was_asked (said_in g) q z ≡ false
    unasked_still q z unasked = ap (λ said. was_asked said q z) said_now ∙ unasked_on (said_in f) d.says q z (no_prepare d result) unasked

    -- ---- live branches

    -- who tells the rollback has left
    teller_left : exit (events_of t) m.from ≢ None
    teller_left =
        let law : is_rollback comes.0.msg.kind ≡ true → exit (events_of t) comes.0.msg.from ≢ None
        = numbered_all (λ x. is_rollback x.msg.kind ≡ true → exit (events_of t) x.msg.from ≢ None) f.net.packets y.number comes.0 (rollers_have_left t s_lawful) comes.1.sent in
        subst (λ (x : Msg). is_rollback x.kind ≡ true → exit (events_of t) x.from ≢ None) comes.1.same law (by told_turn)
      where
        by : TellsRollback m.kind → is_rollback m.kind ≡ true
        by (inl is) = ap is_rollback is
        by (inr is) = ap is_rollback is

    pub watched_on : (z q : BranchId) → exit (events_of t) z ≡ None → (m.to ≡ z → m.from ≡ q → ⊥) → Watched f z q → Watched g z q
    watched_on z q live not_told (Asks_up fly) = Asks_up (flies_on is_ask z q refl refl fly)
    watched_on z q live not_told (Is_rolled fly) = elim (flown is_rollback q z fly) [ inl on ↦ Is_rolled on | inr that ↦ absurd (not_told that.1 that.0) ]
    watched_on z q live not_told (Up_lives l) = elim (lives_on q l) [
      | inl on ↦ Up_lives on
      | inr gone ↦ by gone.0 gone.1 gone.2 gone.3 (was_asked (said_in f) q z) refl
    ]
      where
        by : (x : Live) → live_at k m.to ≡ Some x → q ≡ m.to → d ≡ drops k0 x [] → (w : Bool) → was_asked (said_in f) q z ≡ w → Watched g z q
        by x at that is true asked = Is_rolled (subst (λ b. Flies is_rollback g b z) (sym that) (child_told is_rollback refl x at is z (subst (λ b. was_asked (said_in f) b z ≡ true) that asked)))
        by x at that is false never = Unasked (unasked_still q z never)
    watched_on z q live not_told (Up_names r) = by (names_after q z r)
      where
        by : NamesAfter q z r → Watched g z q
        by (Still_names w same_row) = Up_names w
        by (Has_learnt s c row toward why is to same_row) =
            -- what names a live branch has it as toward, and toward has left
            let names : NamesSo (events_of t) s = names_so (events_of t) s (all_found (RowHolds (events_of t)) kept_row_id ks m.to s (rows_hold t s_lawful u.node k may.up) row).sealed in
            elim (names z (ap (λ x. is_neighbor x z) (sym same_row) ∙ r.names)) [
              | inl sealed ↦ (let left = sealed.1 in absurd (cc (left, live)))
              | inr on ↦ (let both : Some m.from ≡ Some z = sym toward ∙ on in let it_is : m.from ≡ z = cc in absurd (teller_left (ap (exit (events_of t)) it_is ∙ live)))
            ]
    watched_on z q live not_told (Unasked never) = Unasked (unasked_still q z never)

    -- ---- undecided rows

    abbrev B : Born → Type 0
    B x = Began (births_of t) x

    same_born : (x z : Born) → B x → B z → x.me ≡ z.me → x ≡ z
    same_born x z one other me = (let both : Some x ≡ Some z = sym one ∙ (ap (born_at (births_of t)) me ∙ other) in cc)

    abbrev forest : Forest
    forest = forest_of t

    part : Part t s_lawful t.trace
    part = record { rest = []; is = append-nil t.trace }

    pub sought_on : (s : KeptRow) → KeptIs B s → RowFits forest s.me s.toward → (n : ℕ) → exit (events_of t) s.me ≡ Some (Sealed n) → (e : BranchId) → s.toward ≡ Some e → (m.to ≡ s.me → m.from ≡ e → ⊥) → Sought f s e → Sought g s e
    sought_on s born way n sealed e toward not_told (Asks fly) = Asks (flies_on is_ask s.me e refl refl fly)
    sought_on s born way n sealed e toward not_told (Points fly) = Points (flies_on is_point s.me e refl refl fly)
    sought_on s born way n sealed e toward not_told (Is_told fly) = elim (flown is_decision e s.me fly) [ inl on ↦ Is_told on | inr that ↦ absurd (not_told that.1 that.0) ]
    sought_on s born way n sealed e toward not_told (In_doubt r undecided) = by (names_after e s.me r)
      where
        by : NamesAfter e s.me r → Sought g s e
        by (Still_names w same_row) = In_doubt w (ap (λ (x : KeptRow). x.decision) same_row ∙ undecided)
        by (Has_learnt x c row on why is to same_row) = tells (is_branch s.me x.toward) refl
          where
            near : is_neighbor x s.me ≡ true
            near = ap (λ (z : KeptRow). is_neighbor z s.me) (sym same_row) ∙ r.names

            its_way : RowFits forest x.me x.toward
            its_way = all_found (λ (z : KeptRow). RowFits forest z.me z.toward) kept_row_id ks m.to x (rows_fit t s_lawful t.trace part u.node k may.up) row

            tells : (q : Bool) → is_branch s.me x.toward ≡ q → Sought g s e
            tells false off = Is_told (subst (λ b. Flies is_decision g b s.me) (sym to) (beyond_told is_decision refl refl x c row is s.me near off))
            tells true back = absurd (not_each_other t s_lawful s.me x.me s.toward x.toward way its_way (toward ∙ ap Some (to ∙ sym (item_is kept_row_id ks m.to x row))) (branch_found s.me x.toward back))
    sought_on s born way n sealed e toward not_told (Under_live l parent) = elim (lives_on e l) [
      | inl on ↦ Under_live on parent
      | inr gone ↦ Is_told (subst (λ b. Flies is_decision g b s.me) (sym gone.2)
          (child_told is_decision refl gone.0 gone.1 gone.3 s.me (subst (λ b. was_asked (said_in f) b s.me ≡ true) gone.2 (asked_above t s_lawful s born n sealed e parent))))
    ]

    -- ---- all of them

    abbrev RowSo : Facts → KeptRow → Type 0
    RowSo x s = s.decision ≡ None → (e : BranchId) → s.toward ≡ Some e → Sought x s e

    abbrev LiveSo : Facts → Live → Type 0
    LiveSo x l = (q : BranchId) → l.parent ≡ Some q → Watched x l.me q

    abbrev RowHere : KeptRow → Type 0
    RowHere s = ((RowIs (events_of t) s × KeptIs B s) × RowFits forest s.me s.toward) × RowSo f s

    row_on : (s : KeptRow) → RowHere s → NotTold s → RowSo g s
    row_on s so not_told undecided e toward =
        sought_on s so.0.0.1 so.0.1 s.scn (subst (IsKnown (events_of t) s) undecided so.0.0.0.known).0 e toward (λ at from. not_told e undecided toward at from) (so.1 undecided e toward)

    rows_now : (n : ℕ) (i : NodeState) → node_at f n ≡ Some i → AllByRecursion (RowSo f) i.stored.durable.kept → AllByRecursion RowHere i.stored.durable.kept
    rows_now n i up all =
        all_both _ _ i.stored.durable.kept
        (all_both _ _ i.stored.durable.kept (all_both _ _ i.stored.durable.kept (nodes_are_as_events t s_lawful n i up).1 (nodes_name_the_born t s_lawful n i up).1) (rows_fit t s_lawful t.trace part n i up)) all

    abbrev LiveHere : Live → Type 0
    LiveHere l = ((exit (events_of t) l.me ≡ None) × (item_at live_id k.lives l.me ≡ Some l)) × LiveSo f l

    live_on : (l : Live) → LiveHere l → (m.to ≡ l.me → (q : BranchId) → l.parent ≡ Some q → m.from ≡ q → ⊥) → LiveSo g l
    live_on l so not_told q parent = watched_on l.me q so.0.0 (λ at from. not_told at q parent from) (so.1 q parent)

    at_here : (l : Live) → item_at live_id k.lives l.me ≡ Some l → m.to ≡ l.me → live_at k m.to ≡ Some l
    at_here l found at = subst (λ b. live_at k b ≡ Some l) (sym at) found

    lives_after : (x : TurnDraft) → Result x → AllByRecursion LiveHere k.lives → AllByRecursion (LiveSo g) x.after.lives
    lives_after x (Rests none_row none_live is) all =
        subst (λ (z : TurnDraft). AllByRecursion (LiveSo g) z.after.lives) (sym is)
        (all_weaker LiveHere (LiveSo g) (λ l so. live_on l so (λ at q parent from. none_live l (at_here l so.0.1 at) (parent ∙ ap Some (sym from)))) k.lives all)
    lives_after x (Learnt s c row toward why is) all =
        subst (λ (z : TurnDraft). AllByRecursion (LiveSo g) z.after.lives) (sym is) (all_weaker LiveHere (LiveSo g) (λ l so. live_on l so (λ at q parent from. not_both s l row (at_here l so.0.1 at))) k.lives all)
    lives_after x (Dropped c live is) all =
        subst (λ (z : TurnDraft). AllByRecursion (LiveSo g) z.after.lives) (sym is)
        (all_filter LiveHere (LiveSo g) (λ l. not (same l.me c.me)) (λ l stays so. live_on l so (λ at q parent from.
        (let that : same l.me c.me ≡ true = same_from_equal l.me c.me (sym at ∙ sym (item_is live_id k.lives m.to c live)) in let no_that : same l.me c.me ≡ false = not-true (same l.me c.me) stays in absurd (cc (that, no_that))))) k.lives all)

    -- a branch of another node is not told
    elsewhere : (n : ℕ) → u.node ≢ n → (b : BranchId) → b.node ≡ n → m.to ≡ b → ⊥
    elsewhere n other b node at = other (sym at_to ∙ (ap (λ (x : BranchId). x.node) at ∙ node))

    module _ (R : ℕ → Type 0) (now : Obliged R f) where
      rows_here : (n : ℕ) → R n → (j : NodeState) → node_at g n ≡ Some j → AllByRecursion (RowSo g) j.stored.durable.kept
      rows_here n r j up = elim (cases_nat u.node n) [
        | inl at ↦ (let both : Some d.after ≡ Some j = sym here ∙ subst (λ x. node_at g x ≡ Some j) (sym at) up in let its : d.after ≡ j = cc in
            subst (λ (x : NodeState). AllByRecursion (RowSo g) x.stored.durable.kept) its
            (rows_after_all RowHere (RowSo g) row_on (λ x undecided is. absurd (undecided is)) d result
            (all_both _ _ ks (rows_found t s_lawful u.node k may.up) (rows_now u.node k may.up (now.rows u.node (subst R (sym at) r) k may.up)))))
        | inr other ↦ (let upf : node_at f n ≡ Some j = sym (turn_elsewhere t.places t.commands f even u n other).0 ∙ up in
            all_weaker (λ s. RowHere s × (s.me.node ≡ n)) (RowSo g) (λ s so. row_on s so.0 (λ e undecided toward at from. elsewhere n other s.me so.1 at)) j.stored.durable.kept
            (all_both _ _ j.stored.durable.kept (rows_now n j upf (now.rows n r j upf)) (ids_name_their_node t s_lawful n j upf).rows))
      ]

      lives_here : (n : ℕ) → R n → (j : NodeState) → node_at g n ≡ Some j → AllByRecursion (LiveSo g) j.lives
      lives_here n r j up = elim (cases_nat u.node n) [
        | inl at ↦ (let both : Some d.after ≡ Some j = sym here ∙ subst (λ x. node_at g x ≡ Some j) (sym at) up in let its : d.after ≡ j = cc in
            subst (λ (x : NodeState). AllByRecursion (LiveSo g) x.lives) its
            (lives_after d result (all_both _ _ k.lives (all_both _ _ k.lives (nodes_are_as_events t s_lawful u.node k may.up).0 (lives_found t s_lawful u.node k may.up)) (now.lives u.node (subst R (sym at) r) k may.up))))
        | inr other ↦ (let upf : node_at f n ≡ Some j = sym (turn_elsewhere t.places t.commands f even u n other).0 ∙ up in
            all_weaker (λ l. ((exit (events_of t) l.me ≡ None) × (l.me.node ≡ n)) × LiveSo f l) (LiveSo g) (λ l so q parent. watched_on l.me q so.0.0 (λ at from. elsewhere n other l.me so.0.1 at) (so.1 q parent)) j.lives
            (all_both _ _ j.lives (all_both _ _ j.lives (nodes_are_as_events t s_lawful n j upf).0 (ids_name_their_node t s_lawful n j upf).lives) (now.lives n r j upf)))
      ]

      -- a rollback that comes leaves all so
      pub roll_obliged : Obliged R g
      roll_obliged = record { rows = rows_here; lives = lives_here }
