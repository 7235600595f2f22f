-- A calm turn in which a commit comes: what was so of undecided rows and live branches stays so.
use Rattle.std.proofs.Common.{◌≡◌, ◌≢◌, ℕ, Bool, true, false, if◌then◌else◌, List, [], ◌∷◌, map, Option, Some, None, inl, inr, refl, sym, ap, subst, ◌∙◌, append-nil}
use Rattle.std.specs.List.{AllByRecursion}
use Rattle.std.proofs.lemmas.Bool.{cond_both}
use Rattle.tran_ids.proofs.BranchLemmas.{equal_from_same, same_from_equal}
use Rattle.tran_ids.proofs.ListedLemmas.{item_is}
use Rattle.commit_forget.specs.Beyond.{is_neighbor}
use Rattle.net_bag.specs.Net.{lost_at_once}
use Rattle.session_tree.specs.Live.{is_branch}
use Rattle.node_rules.specs.Data.{BranchId, Decision, Kind, Live, Msg, Place, Post, KeptRow}
use Rattle.node_rules.specs.Data.decisions
use Rattle.node_rules.specs.Data.inputs
use Rattle.node_rules.specs.Data.kinds
use Rattle.node_rules.specs.Words.{same, item_at}
use Rattle.node_rules.specs.NodeState.{NodeState, Branch, TurnDraft, saying, post, post_one, live_at, live_id, kept_row_at, kept_row_id, branch_at}
use Rattle.node_rules.specs.Turn.{draft_of, heard, kind_turn, status_of, live_or}
use Rattle.node_rules.proofs.StandLemmas.{live_so}
use Rattle.node_rules.proofs.StepLemmas.{branch_found}
use Rattle.run_rules.specs.Data.{Took, Turn}
use Rattle.run_rules.specs.Data.happenings
use Rattle.run_rules.specs.Facts.{Facts, place_at, node_at, taken, facts_after}
use Rattle.run_base_laws.specs.FreezeLaws.{was_asked}
use Rattle.run_base_laws.specs.InTurnLaws.{said_in}
use Rattle.run_rules.specs.Lawful.{MayTurn, History, IsLawfulRun}
use Rattle.run_rules.specs.Trail.{is_prepare}
use Rattle.run_base_laws.specs.EventRows.{RowIs}
use Rattle.run_base_laws.specs.RunEvents.{events_of}
use Rattle.agreement.specs.Events.{exit}
use Rattle.run_rules.proofs.AtNodeLemmas.{turn_elsewhere}
use Rattle.run_base_laws.proofs.EventsStandLemmas.{nodes_are_as_events}
use Rattle.run_rules.proofs.ListLemmas.{all_weaker}
use Rattle.run_base_laws.proofs.OwnLemmas.{all_found}
use Rattle.run_base_laws.proofs.TurnEventLemmas.{all_both, cases_nat}
use Rattle.tree_laws.proofs.PrefixLemmas.{f_at}
use Rattle.commit_laws.proofs.ListLemmas.{IsIn}
use Rattle.settle_laws.specs.OverLaws.{is_rollback}
use Rattle.settle_laws.specs.Interval.{Flies, is_ask, is_point, is_decision, LivesAt, RowNamesAnother, Sought, Asks, Points, Is_told, In_doubt, Under_live, Watched, Asks_up, Is_rolled, Up_lives, Up_names, Unasked, Obliged}
use Rattle.settle_laws.proofs.CalmTurn.{calm}
use Rattle.settle_laws.proofs.FlyLemmas.{in_map}
use Rattle.settle_laws.proofs.RecoTurnLemmas.{unasked_on, no_prepares}
use Rattle.settle_laws.proofs.RollTurnLemmas.{change_leaves}
use Rattle.run_base_laws.proofs.KindSayLemmas.{passes_say}
use Rattle.node_rules.specs.Commit.{passes_commit}
use Rattle.node_rules.specs.Turn.{committed_turn}
use Rattle.redo_record.specs.Kept.{ended_commit}
use Rattle.commit_forget.specs.Beyond.{all_acked}
use Rattle.commit_forget_laws.proofs.FoundRowLemmas.{rows_found}
use Rattle.settle_laws.proofs.RowLemmas.{neighbor_off}
use Rattle.commit_forget.specs.declared.next.Beyond.{Beyond as Neighbor}
use Rattle.commit_forget.specs.Beyond.{beyond}
use Rattle.commit_forget.specs.Next.{next_on_decision, decision_at}
use Rattle.commit_forget.specs.declared.next.Next.TheVariants as nexts
use Rattle.redo_record.specs.Durable.{durable_after}
use Rattle.redo_record.specs.Kept.{stands_at, met_as, kept_after as rows_after}
use Rattle.node_rules.specs.Data.{RedoRecord, State}
use Rattle.node_rules.specs.Data.records
use Rattle.node_rules.specs.Data.states
use Rattle.node_rules.specs.Words.{change_where}
use Rattle.node_rules.specs.Records.{applied}
use Rattle.node_rules.specs.Commit.{learns, next_turn, on_decision}
use Rattle.agreement.specs.Events.{Forest}
use Rattle.run_base_laws.specs.EventRows.{IsForcedAs}
use Rattle.run_base_laws.proofs.EventsStandLemmas.{ids_name_their_node}
use Rattle.commit_laws.proofs.ListLemmas.{all_in}
use Rattle.commit_forget_laws.proofs.TellLemmas.{rows_changed}
use Rattle.commit_forget_laws.proofs.WayLemmas.{not_each_other}
use Rattle.tree_laws.proofs.FitRowLemmas.{RowFits, rows_fit}
use Rattle.tree_laws.specs.Forests.{forest_of}
use Rattle.tree_laws.proofs.TimeLemmas.{Part}

-- where a row is changed it is found changed
change_found : (b : BranchId) (h : KeptRow → KeptRow) → ((x : KeptRow) → (h x).me ≡ x.me) → (ks : List KeptRow) (s : KeptRow) → item_at kept_row_id ks b ≡ Some s → item_at kept_row_id (change_where (stands_at b) h ks) b ≡ Some (h s)
change_found b h me [] s none = absurd cc
change_found b h me (x ∷ xs) s found = by (same x.me b) refl found (change_found b h me xs s)
  where
    by : (q : Bool) → same x.me b ≡ q → (if q then Some x else item_at kept_row_id xs b) ≡ Some s → (item_at kept_row_id xs b ≡ Some s → item_at kept_row_id (change_where (stands_at b) h xs) b ≡ Some (h s))
        → item_at kept_row_id ((if same x.me b then h x else x) ∷ change_where (stands_at b) h xs) b ≡ Some (h s)
    by true here is rest =
        let both : x ≡ s = (let it : Some x ≡ Some s = is in cc) in
        let here_h : same (h x).me b ≡ true = ap (λ z. same z b) (me x) ∙ here in
        ap (λ (w : Bool). item_at kept_row_id ((if w then h x else x) ∷ change_where (stands_at b) h xs) b) here
        ∙ (ap (λ (w : Bool). if w then Some (h x) else item_at kept_row_id (change_where (stands_at b) h xs) b) here_h ∙ ap (λ (z : KeptRow). Some (h z)) both)
    by false there is rest =
        ap (λ (w : Bool). item_at kept_row_id ((if w then h x else x) ∷ change_where (stands_at b) h xs) b) there
        ∙ (ap (λ (w : Bool). if w then Some x else item_at kept_row_id (change_where (stands_at b) h xs) b) there ∙ rest is)

committed_in : (s : KeptRow) (n : ℕ) (bs : List Neighbor) (y : Neighbor) → IsIn y bs → IsIn (post_one s.me (kinds.Committed n) y.branch) (passes_commit s n bs)
committed_in s n [] y at = absurd at
committed_in s n (b ∷ bs) y at = in_map (post_one s.me (kinds.Committed n)) y.branch (map (λ (x : Neighbor). x.branch) (b ∷ bs)) (in_map (λ (x : Neighbor). x.branch) y (b ∷ bs) at)

module _ (t : History) (s_lawful : IsLawfulRun t) (u : Turn) (k : NodeState) where
  abbrev pub f : Facts
  f = f_at t t.trace

  abbrev pub g : Facts
  g = facts_after t.places t.commands f (happenings.Turn u)

  module _ (may : MayTurn t.places f u k) (uncut : u.cut ≡ false) (none : lost_at_once (taken f.net u.took) u.sent ≡ []) (m : Msg) (it : u.input ≡ inputs.Message m) (c : ℕ) (kind : m.kind ≡ kinds.Committed c)
      (y : Took) (took : u.took ≡ Some y) where
    abbrev p : Place
    p = place_at t.places u.node

    abbrev k0 : NodeState
    k0 = heard k (inputs.Message m)

    abbrev d : TurnDraft
    d = committed_turn k0 m.from m.to c (status_of k0 m.to)

    draft_is : draft_of p k u.input ≡ d
    draft_is = ap (draft_of p k) it ∙ ap (λ x. kind_turn p k0 m.from m.to x (status_of k0 m.to)) kind

    open calm t s_lawful u k may uncut none m it y took d draft_is use {even, comes, at_to, here, up_to, here_to, said_now, post_flies, flown}

    -- ---- what the turn does

    abbrev ks : List KeptRow
    ks = k.stored.durable.kept

    data Learns (s : KeptRow) : RedoRecord → Type 0 where
      Ends : Learns s (records.Ended s.me (decisions.Commit c))
      Meets : (mixed : Bool) → Learns s (records.Met s.me (decisions.Commit c) mixed)

    changed : {s : KeptRow} {r : RedoRecord} → Learns s r → KeptRow → KeptRow
    changed Ends x = ended_commit c x
    changed (Meets mixed) x = met_as (decisions.Commit c) mixed x

    changed_me : {s : KeptRow} {r : RedoRecord} (why : Learns s r) (x : KeptRow) → (changed why x).me ≡ x.me
    unfolding changed
    changed_me Ends x = refl
    changed_me (Meets mixed) x = refl

    changed_names : {s : KeptRow} {r : RedoRecord} (why : Learns s r) (x : KeptRow) (z : BranchId) → is_neighbor (changed why x) z ≡ is_neighbor x z
    unfolding changed
    changed_names Ends x z = refl
    changed_names (Meets mixed) x z = refl

    changed_knows : {s : KeptRow} {r : RedoRecord} (why : Learns s r) (x : KeptRow) → (changed why x).decision ≡ None → ⊥
    unfolding changed
    changed_knows Ends x none_known = absurd cc
    changed_knows (Meets mixed) x none_known = absurd cc

    kept_is : {s : KeptRow} {r : RedoRecord} (why : Learns s r) → (applied k0.stored r).durable.kept ≡ change_where (stands_at s.me) (changed why) ks
    unfolding applied durable_after rows_after changed
    kept_is Ends = refl
    kept_is (Meets true) = refl
    kept_is (Meets false) = refl

    -- no undecided row hears it from toward; or one learns it
    data Result (x : TurnDraft) : Type 0 where
      Rests : ((s : KeptRow) → kept_row_at k m.to ≡ Some s → s.toward ≡ Some m.from → s.decision ≡ None → ⊥) → (says : List Post) → AllByRecursion (λ (z : Post). is_prepare z.kind ≡ false) says → x ≡ saying k0 says → Result x
      Learnt : (s : KeptRow) (r : RedoRecord) → kept_row_at k m.to ≡ Some s → s.toward ≡ Some m.from → Learns s r → x ≡ learns k0 s (decisions.Commit c) r → Result x

    row_exit : (s : KeptRow) → kept_row_at k m.to ≡ Some s → RowIs (events_of t) s
    row_exit s at = all_found (RowIs (events_of t)) kept_row_id ks m.to s (nodes_are_as_events t s_lawful u.node k may.up).1 at

    row_result : (s : KeptRow) → kept_row_at k m.to ≡ Some s → Result (on_decision k0 s m.from (decisions.Commit c))
    unfolding next_on_decision
    row_result s at = by (is_branch m.from s.toward) refl s.decision refl s.state (row_exit s at).force
      where
        this : (w : KeptRow) → kept_row_at k m.to ≡ Some w → w ≡ s
        this w found = (let both : Some w ≡ Some s = sym found ∙ at in cc)

        decided : (o : Decision) → s.decision ≡ Some o → (w : KeptRow) → kept_row_at k m.to ≡ Some w → w.toward ≡ Some m.from → w.decision ≡ None → ⊥
        decided o known w found toward undecided = (let its : s.decision ≡ None = ap (λ (z : KeptRow). z.decision) (sym (this w found)) ∙ undecided in absurd (cc (its, known)))

        by : (q : Bool) → is_branch m.from s.toward ≡ q → (o : Option Decision) → s.decision ≡ o → (st : State) → IsForcedAs (events_of t) s.me st s.decision
            → Result (next_turn k0 s m.from (if q then decision_at (record s { state = st }) (decisions.Commit c) o else nexts.Rest))
        by false off o known st force =
            Rests (λ w found toward undecided. (let on : is_branch m.from s.toward ≡ true = ap (is_branch m.from) (ap (λ (z : KeptRow). z.toward) (sym (this w found)) ∙ toward) ∙ same_from_equal m.from m.from refl in absurd (cc (on, off)))) [] tt refl
        by true on (Some (decisions.Commit n)) known st force =
            cond_both (all_acked (record s { state = st })) nexts.SayAck nexts.Rest (λ x. Result (next_turn k0 s m.from x))
            (λ all. Rests (decided (decisions.Commit n) known) (post s.me m.from kinds.Ack) (refl, tt) refl) (λ some. Rests (decided (decisions.Commit n) known) [] tt refl)
        by true on (Some decisions.Rollback) known st force = Rests (decided decisions.Rollback known) [] tt refl
        by true on None undecided states.Sealed force = Learnt s (records.Ended s.me (decisions.Commit c)) at (branch_found m.from s.toward on) Ends refl
        by true on None undecided states.Committed force = absurd (force undecided)
        by true on None undecided (states.ForcedCommit n) force = Learnt s (records.Met s.me (decisions.Commit c) false) at (branch_found m.from s.toward on) (Meets false) refl
        by true on None undecided states.ForcedRollback force = Learnt s (records.Met s.me (decisions.Commit c) true) at (branch_found m.from s.toward on) (Meets true) refl

    result_by : (o : Option Branch) (q : Option KeptRow) → branch_at k m.to ≡ o → kept_row_at k m.to ≡ q → Result (committed_turn k0 m.from m.to c (live_or o q))
    result_by None (Some s) live row = row_result s row
    result_by None None live row = Rests (λ s found toward undecided. absurd (cc (row, found))) (post m.to m.from kinds.Ack) (refl, tt) refl
    result_by (Some x) q live row =
        Rests (λ s found toward undecided. (row_exit s found).left (ap (exit (events_of t)) (item_is kept_row_id ks m.to s found ∙ sym (item_is live_id k.lives m.to x.live (live_so k m.to x live)))
        ∙ all_found (λ (z : Live). exit (events_of t) z.me ≡ None) live_id k.lives m.to x.live (nodes_are_as_events t s_lawful u.node k may.up).0 (live_so k m.to x live))) [] tt refl

    result : Result d
    unfolding status_of
    result = result_by (branch_at k m.to) (kept_row_at k m.to) refl refl

    lives_same : (x : TurnDraft) → Result x → x.after.lives ≡ k.lives
    lives_same x (Rests none_row says plain is) = ap (λ (z : TurnDraft). z.after.lives) is
    lives_same x (Learnt s r row toward why is) = ap (λ (z : TurnDraft). z.after.lives) is

    -- ---- what it leaves

    abbrev NotTold : KeptRow → Type 0
    NotTold x = (e : BranchId) → x.decision ≡ None → x.toward ≡ Some e → m.to ≡ x.me → m.from ≡ e → ⊥

    apart_not : (b : BranchId) (x : KeptRow) → b ≡ m.to → same x.me b ≡ false → NotTold x
    apart_not b x me apart e undecided toward at from = (let yes_same : same x.me b ≡ true = same_from_equal x.me b (sym at ∙ sym me) in absurd (cc (yes_same, apart)))

    module _ (P Q : KeptRow → Type 0) (each : (x : KeptRow) → P x → NotTold x → Q x) (decided : (x : KeptRow) → (x.decision ≡ None → ⊥) → Q x) where
      abbrev Found : KeptRow → Type 0
      Found x = (item_at kept_row_id ks x.me ≡ Some x) × P x

      rows_after_all : (x : TurnDraft) → Result x → AllByRecursion Found ks → AllByRecursion Q x.after.stored.durable.kept
      rows_after_all x (Rests none_row says plain is) all =
          subst (λ (z : TurnDraft). AllByRecursion Q z.after.stored.durable.kept) (sym is)
          (all_weaker Found Q (λ y so. each y so.1 (λ e undecided toward at from. none_row y (subst (λ b. kept_row_at k b ≡ Some y) (sym at) so.0) (toward ∙ ap Some (sym from)) undecided)) ks all)
      rows_after_all x (Learnt s r row toward why is) all =
          subst (λ (z : TurnDraft). AllByRecursion Q z.after.stored.durable.kept) (sym is)
          (subst (λ (xs : List KeptRow). AllByRecursion Q xs) (sym (kept_is why))
          (rows_changed Found Q s.me (changed why) (λ y at so. decided (changed why y) (changed_knows why y)) (λ y apart so. each y so.1 (apart_not s.me y (item_is kept_row_id ks m.to s row) apart)) ks all))

    -- a row that names a branch does so after; it is the same, or it is the one that learned the commit
    data NamesAfter (b z : BranchId) (r : RowNamesAnother f b z) : Type 0 where
      Still_names : (w : RowNamesAnother g b z) → w.row ≡ r.row → NamesAfter b z r
      Has_learnt : (w : RowNamesAnother g b z) (s : KeptRow) (x : RedoRecord) → kept_row_at k m.to ≡ Some s → d ≡ learns k0 s (decisions.Commit c) x → b ≡ m.to → r.row ≡ s → NamesAfter b z r

    names_after : (b z : BranchId) (r : RowNamesAnother f b z) → NamesAfter b z r
    names_after b z r = elim (cases_nat u.node b.node) [
      | inr other ↦ Still_names (record { node = r.node; up = (turn_elsewhere t.places t.commands f even u b.node other).0 ∙ r.up; row = r.row; found = r.found; names = r.names }) refl
      | inl at ↦ (let both : Some k ≡ Some r.node = sym may.up ∙ subst (λ n. node_at f n ≡ Some r.node) (sym at) r.up in let same_node : k ≡ r.node = cc in
          at_node (subst (λ n. node_at g n ≡ Some d.after) at here) (subst (λ (x : NodeState). kept_row_at x b ≡ Some r.row) (sym same_node) r.found) result)
    ]
      where
        at_node : node_at g b.node ≡ Some d.after → kept_row_at k b ≡ Some r.row → Result d → NamesAfter b z r
        at_node up found (Rests none_row says plain is) = Still_names (record { node = d.after; up = up; row = r.row; found = ap (λ (x : TurnDraft). kept_row_at x.after b) is ∙ found; names = r.names }) refl
        at_node up found (Learnt s x row toward why is) = by (same s.me b) refl
          where
            me : s.me ≡ m.to
            me = item_is kept_row_id ks m.to s row

            now_at : (o : Option KeptRow) → item_at kept_row_id (change_where (stands_at s.me) (changed why) ks) b ≡ o → kept_row_at d.after b ≡ o
            now_at o there = ap (λ (y : TurnDraft). kept_row_at y.after b) is ∙ (ap (λ (xs : List KeptRow). item_at kept_row_id xs b) (kept_is why) ∙ there)

            by : (q : Bool) → same s.me b ≡ q → NamesAfter b z r
            by true that =
                let its : s.me ≡ b = equal_from_same s.me b that in
                let changed_row : item_at kept_row_id (change_where (stands_at s.me) (changed why) ks) b ≡ Some (changed why r.row)
                = subst (λ y. item_at kept_row_id (change_where (stands_at y) (changed why) ks) b ≡ Some (changed why r.row)) (sym its) (change_found b (changed why) (changed_me why) ks r.row found) in
                Has_learnt (record { node = d.after; up = up; row = changed why r.row; found = now_at (Some (changed why r.row)) changed_row; names = changed_names why r.row z ∙ r.names }) s x row is (sym its ∙ me)
                (let both_rows : Some r.row ≡ Some s = sym found ∙ (ap (kept_row_at k) (sym its ∙ me) ∙ row) in cc)
            by false other = Still_names (record { node = d.after; up = up; row = r.row; found = now_at (Some r.row) (change_leaves s.me (changed why) (changed_me why) ks b other ∙ found); names = r.names }) refl

    lives_on : (b : BranchId) → LivesAt f b → LivesAt g b
    lives_on b x = elim (cases_nat u.node b.node) [
      | inr other ↦ record { node = x.node; up = (turn_elsewhere t.places t.commands f even u b.node other).0 ∙ x.up; live = x.live; found = x.found }
      | inl at ↦ (let both : Some k ≡ Some x.node = sym may.up ∙ subst (λ n. node_at f n ≡ Some x.node) (sym at) x.up in let same_node : k ≡ x.node = cc in
          record {
            node = d.after;
            up = subst (λ n. node_at g n ≡ Some d.after) at here;
            live = x.live;
            found = ap (λ (ls : List Live). item_at live_id ls b) (lives_same d result) ∙ subst (λ (z : NodeState). live_at z b ≡ Some x.live) (sym same_node) x.found;
          })
    ]

    -- ---- messages

    flies_on : (test : Kind → Bool) (a b : BranchId) → test (kinds.Committed c) ≡ false → Flies test f a b → Flies test g a b
    flies_on test a b not_it fly = elim (flown test a b fly) [
      | inl on ↦ on
      | inr taken_one ↦ (let it_does : test (kinds.Committed c) ≡ true = ap test (sym kind) ∙ taken_one.2 in absurd (cc (not_it, it_does)))
    ]

    beyond_told : (s : KeptRow) (x : RedoRecord) → kept_row_at k m.to ≡ Some s → d ≡ learns k0 s (decisions.Commit c) x → (z : BranchId) → is_neighbor s z ≡ true → is_branch z s.toward ≡ false → Flies is_decision g m.to z
    beyond_told s x row is z near off =
        let among : (w : Neighbor) × IsIn w (beyond s) × (w.branch ≡ z)
        = neighbor_off (λ b. (w : Neighbor) × IsIn w (beyond s) × (w.branch ≡ b)) z s off near (all_in (λ (v : Neighbor). (w : Neighbor) × IsIn w (beyond s) × (w.branch ≡ v.branch)) (beyond s) (λ v at. (v, at, refl))) in
        let one : Post = post_one s.me (kinds.Committed c) among.0.branch in
        let said : IsIn one d.says = subst (λ (v : TurnDraft). IsIn one v.says) (sym is) (committed_in s c (beyond s) among.0 among.1) in
        subst (λ b. Flies is_decision g b z) (item_is kept_row_id ks m.to s row) (subst (Flies is_decision g s.me) among.2 (post_flies is_decision one said refl))

    no_prepare : (x : TurnDraft) → Result x → AllByRecursion (λ (z : Post). is_prepare z.kind ≡ false) x.says
    no_prepare x (Rests none_row says plain is) = subst (λ (z : TurnDraft). AllByRecursion (λ (a : Post). is_prepare a.kind ≡ false) z.says) (sym is) plain
    no_prepare x (Learnt s r row toward why is) = subst (λ (z : TurnDraft). AllByRecursion (λ (a : Post). is_prepare a.kind ≡ false) z.says) (sym is) (passes_say (λ w. is_prepare w ≡ false) no_prepares s (decisions.Commit c))

    unasked_still : (q z : BranchId) → was_asked (said_in f) q z ≡ false → was_asked (said_in g) q z ≡ false
    unasked_still q z unasked = ap (λ said. was_asked said q z) said_now ∙ unasked_on (said_in f) d.says q z (no_prepare d result) unasked

    pub watched_on : (z q : BranchId) → Watched f z q → Watched g z q
    watched_on z q (Asks_up fly) = Asks_up (flies_on is_ask z q refl fly)
    watched_on z q (Is_rolled fly) = Is_rolled (flies_on is_rollback q z refl fly)
    watched_on z q (Up_lives l) = Up_lives (lives_on q l)
    watched_on z q (Up_names r) = by (names_after q z r)
      where
        by : NamesAfter q z r → Watched g z q
        by (Still_names w same_row) = Up_names w
        by (Has_learnt w s x row is to same_row) = Up_names w
    watched_on z q (Unasked never) = Unasked (unasked_still q z never)

    abbrev forest : Forest
    forest = forest_of t

    part : Part t s_lawful t.trace
    part = record { rest = []; is = append-nil t.trace }

    pub sought_on : (s : KeptRow) → RowFits forest s.me s.toward → (e : BranchId) → s.toward ≡ Some e → (m.to ≡ s.me → m.from ≡ e → ⊥) → Sought f s e → Sought g s e
    sought_on s way e toward not_told (Asks fly) = Asks (flies_on is_ask s.me e refl fly)
    sought_on s way e toward not_told (Points fly) = Points (flies_on is_point s.me e refl fly)
    sought_on s way e toward not_told (Is_told fly) = elim (flown is_decision e s.me fly) [ inl on ↦ Is_told on | inr that ↦ absurd (not_told that.1 that.0) ]
    sought_on s way e toward not_told (In_doubt r undecided) = by (names_after e s.me r)
      where
        by : NamesAfter e s.me r → Sought g s e
        by (Still_names w same_row) = In_doubt w (ap (λ (x : KeptRow). x.decision) same_row ∙ undecided)
        by (Has_learnt w x rec row is to same_row) = tells (is_branch s.me x.toward) refl
          where
            near : is_neighbor x s.me ≡ true
            near = ap (λ (z : KeptRow). is_neighbor z s.me) (sym same_row) ∙ r.names

            its_way : RowFits forest x.me x.toward
            its_way = all_found (λ (z : KeptRow). RowFits forest z.me z.toward) kept_row_id ks m.to x (rows_fit t s_lawful t.trace part u.node k may.up) row

            tells : (q : Bool) → is_branch s.me x.toward ≡ q → Sought g s e
            tells false off = Is_told (subst (λ b. Flies is_decision g b s.me) (sym to) (beyond_told x rec row is s.me near off))
            tells true back = absurd (not_each_other t s_lawful s.me x.me s.toward x.toward way its_way (toward ∙ ap Some (to ∙ sym (item_is kept_row_id ks m.to x row))) (branch_found s.me x.toward back))
    sought_on s way e toward not_told (Under_live l parent) = Under_live (lives_on e l) parent

    -- ---- all of them

    abbrev RowSo : Facts → KeptRow → Type 0
    RowSo x s = s.decision ≡ None → (e : BranchId) → s.toward ≡ Some e → Sought x s e

    abbrev LiveSo : Facts → Live → Type 0
    LiveSo x l = (q : BranchId) → l.parent ≡ Some q → Watched x l.me q

    abbrev RowHere : KeptRow → Type 0
    RowHere s = RowFits forest s.me s.toward × RowSo f s

    row_on : (s : KeptRow) → RowHere s → NotTold s → RowSo g s
    row_on s so not_told undecided e toward =
        sought_on s so.0 e toward (λ at from. not_told e undecided toward at from) (so.1 undecided e toward)

    rows_now : (n : ℕ) (i : NodeState) → node_at f n ≡ Some i → AllByRecursion (RowSo f) i.stored.durable.kept → AllByRecursion RowHere i.stored.durable.kept
    rows_now n i up all = all_both _ _ i.stored.durable.kept (rows_fit t s_lawful t.trace part n i up) all

    -- a branch of another node is not told
    elsewhere : (n : ℕ) → u.node ≢ n → (b : BranchId) → b.node ≡ n → m.to ≡ b → ⊥
    elsewhere n other b node at = other (sym at_to ∙ (ap (λ (x : BranchId). x.node) at ∙ node))

    module _ (R : ℕ → Type 0) (now : Obliged R f) where
      rows_here : (n : ℕ) → R n → (j : NodeState) → node_at g n ≡ Some j → AllByRecursion (RowSo g) j.stored.durable.kept
      rows_here n r j up = elim (cases_nat u.node n) [
        | inl at ↦ (let both : Some d.after ≡ Some j = sym here ∙ subst (λ x. node_at g x ≡ Some j) (sym at) up in let its : d.after ≡ j = cc in
            subst (λ (x : NodeState). AllByRecursion (RowSo g) x.stored.durable.kept) its
            (rows_after_all RowHere (RowSo g) row_on (λ x undecided is. absurd (undecided is)) d result
            (all_both _ _ ks (rows_found t s_lawful u.node k may.up) (rows_now u.node k may.up (now.rows u.node (subst R (sym at) r) k may.up)))))
        | inr other ↦ (let upf : node_at f n ≡ Some j = sym (turn_elsewhere t.places t.commands f even u n other).0 ∙ up in
            all_weaker (λ s. RowHere s × (s.me.node ≡ n)) (RowSo g) (λ s so. row_on s so.0 (λ e undecided toward at from. elsewhere n other s.me so.1 at)) j.stored.durable.kept
            (all_both _ _ j.stored.durable.kept (rows_now n j upf (now.rows n r j upf)) (ids_name_their_node t s_lawful n j upf).rows))
      ]

      lives_here : (n : ℕ) → R n → (j : NodeState) → node_at g n ≡ Some j → AllByRecursion (LiveSo g) j.lives
      lives_here n r j up = elim (cases_nat u.node n) [
        | inl at ↦ (let both : Some d.after ≡ Some j = sym here ∙ subst (λ x. node_at g x ≡ Some j) (sym at) up in let its : d.after ≡ j = cc in
            subst (λ (x : NodeState). AllByRecursion (LiveSo g) x.lives) its (subst (λ (ls : List Live). AllByRecursion (LiveSo g) ls) (sym (lives_same d result))
            (all_weaker (LiveSo f) (LiveSo g) (λ l so q parent. watched_on l.me q (so q parent)) k.lives (now.lives u.node (subst R (sym at) r) k may.up))))
        | inr other ↦ (let upf : node_at f n ≡ Some j = sym (turn_elsewhere t.places t.commands f even u n other).0 ∙ up in
            all_weaker (LiveSo f) (LiveSo g) (λ l so q parent. watched_on l.me q (so q parent)) j.lives (now.lives n r j upf))
      ]

      -- a commit that comes leaves all so
      pub commit_obliged : Obliged R g
      commit_obliged = record { rows = rows_here; lives = lives_here }
