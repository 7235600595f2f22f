-- A calm turn in which Forgotten comes: a branch that forgets tells those beyond it, and what was so of rows that know a commit stays so.
use Rattle.std.proofs.Common.{◌≡◌, ℕ, ◌&&◌, ◌||◌, not, Bool, true, false, if◌then◌else◌, List, [], ◌∷◌, map, Option, Some, None, inl, inr, refl, sym, ap, subst, ◌∙◌, append-nil}
use Rattle.std.specs.List.{list_any, AllByRecursion}
use Rattle.tran_ids.proofs.BranchLemmas.{equal_from_same, same_from_equal}
use Rattle.tran_ids.proofs.ListedLemmas.{item_is}
use Rattle.commit_forget.specs.declared.next.Beyond.{Beyond as Neighbor}
use Rattle.commit_forget.specs.declared.next.Next.TheVariants as nexts
use Rattle.commit_forget.specs.Beyond.{beyond, all_acked}
use Rattle.commit_forget.specs.Next.{knows_commit, next_on_forgotten}
use Rattle.net_bag.specs.Net.{lost_at_once}
use Rattle.session_tree.specs.Live.{is_branch}
use Rattle.agreement.specs.Events.{Forest, Event, Quiet, Forget, Send_forgotten, Beyond, exit, Has}
use Rattle.agreement.proofs.Invariant.{Inv}
use Rattle.redo_record.specs.Durable.{durable_after}
use Rattle.redo_record.specs.Kept.{is_done, forgot_as, kept_after}
use Rattle.node_rules.specs.Data.{BranchId, Decision, Kind, KeptRow, Live, Msg, Place, Post}
use Rattle.node_rules.specs.Data.decisions
use Rattle.node_rules.specs.Data.inputs
use Rattle.node_rules.specs.Data.kinds
use Rattle.node_rules.specs.Data.records
use Rattle.node_rules.specs.Words.{same, item_at, drop_where}
use Rattle.node_rules.specs.Inputs.{Came}
use Rattle.node_rules.specs.NodeState.{NodeState, Branch, TurnDraft, nothing, live_id, kept_row_at, kept_row_id, branch_at, post_one}
use Rattle.node_rules.specs.Records.{applied}
use Rattle.node_rules.specs.Commit.{forgets, next_turn, on_forgotten}
use Rattle.node_rules.specs.Turn.{draft_of, heard, kind_turn, forgotten_turn, status_of, live_or}
use Rattle.node_rules.proofs.StandLemmas.{live_so}
use Rattle.node_rules.proofs.StepLemmas.{branch_found}
use Rattle.run_rules.specs.Data.{Took, Turn}
use Rattle.run_rules.specs.Data.happenings
use Rattle.run_rules.specs.Facts.{Facts, place_at, node_at, taken, facts_after}
use Rattle.run_rules.specs.Lawful.{MayTurn, History, IsLawfulRun}
use Rattle.run_rules.proofs.AtNodeLemmas.{turn_elsewhere}
use Rattle.run_rules.proofs.ListLemmas.{all_weaker}
use Rattle.run_base_laws.specs.EventRows.{RowIs, IsKnown}
use Rattle.run_base_laws.specs.RunEvents.{events_of}
use Rattle.run_base_laws.proofs.EventsStandLemmas.{nodes_are_as_events, ids_name_their_node, run_stands}
use Rattle.run_base_laws.proofs.OwnLemmas.{all_found}
use Rattle.run_base_laws.proofs.SaidLemmas.{came_said}
use Rattle.run_base_laws.proofs.TurnEventLemmas.{all_both, cases_nat}
use Rattle.tree_laws.specs.Forests.{forest_of}
use Rattle.tree_laws.proofs.FitRowLemmas.{RowFits, rows_fit}
use Rattle.tree_laws.proofs.MoreLemmas.{inv_at}
use Rattle.tree_laws.proofs.PrefixLemmas.{f_at}
use Rattle.tree_laws.proofs.TimeLemmas.{Part}
use Rattle.commit_laws.proofs.ListLemmas.{IsIn}
use Rattle.commit_forget_laws.specs.RowLaws.{is_ack}
use Rattle.commit_forget_laws.proofs.FoundRowLemmas.{rows_found}
use Rattle.commit_forget_laws.proofs.TellLemmas.{rows_changed, rows_left}
use Rattle.settle_laws.specs.RowLaws.{RowHolds}
use Rattle.settle_laws.specs.Interval.{Flies}
use Rattle.settle_laws.specs.OweLaws.{is_committed, is_forgotten, holds_ack, IsToForget, RowIsToForget, Awaited, Is_sent, Is_acked, Waits_too, Reported, Acks, Is_released, Is_noted, AwaitsAll, ReportsSo, Owed}
use Rattle.settle_laws.proofs.BeyondNamedLemmas.{rows_beyond}
use Rattle.settle_laws.proofs.CalmTurn.{calm}
use Rattle.settle_laws.proofs.FlyLemmas.{in_map}
use Rattle.settle_laws.proofs.ForgottenLemmas.{tellers_have_forgotten}
use Rattle.settle_laws.proofs.RowLemmas.{rows_hold}
use Rattle.settle_laws.proofs.StayLemmas.{forgot_leaves}

-- whose Ack a row holds is beyond
acked_in : (b : BranchId) (ys : List Neighbor) → list_any (λ y. y.acked && same y.branch b) ys ≡ true → (y : Neighbor) × IsIn y ys × (y.branch ≡ b)
acked_in b [] is = absurd cc
acked_in b (y ∷ ys) is = by y.acked (same y.branch b) refl is (acked_in b ys)
  where
    later : (z : Neighbor) × IsIn z ys × (z.branch ≡ b) → (z : Neighbor) × IsIn z (y ∷ ys) × (z.branch ≡ b)
    later more = (more.0, inr more.1, more.2)

    by : (a w : Bool) → same y.branch b ≡ w → ((a && w) || list_any (λ z. z.acked && same z.branch b) ys) ≡ true → (list_any (λ z. z.acked && same z.branch b) ys ≡ true → (z : Neighbor) × IsIn z ys × (z.branch ≡ b))
        → (z : Neighbor) × IsIn z (y ∷ ys) × (z.branch ≡ b)
    by true true at found rest = (y, inl refl, equal_from_same y.branch b at)
    by true false at found rest = later (rest found)
    by false w at found rest = later (rest found)

module _ (t : History) (s_lawful : IsLawfulRun t) (u : Turn) (k : NodeState) where
  abbrev pub f : Facts
  f = f_at t t.trace

  abbrev pub g : Facts
  g = facts_after t.places t.commands f (happenings.Turn u)

  abbrev e : List Event
  e = events_of t

  abbrev forest : Forest
  forest = forest_of t

  part : Part t s_lawful t.trace
  part = record { rest = []; is = append-nil t.trace }

  module _ (may : MayTurn t.places f u k) (uncut : u.cut ≡ false) (none : lost_at_once (taken f.net u.took) u.sent ≡ []) (m : Msg) (it : u.input ≡ inputs.Message m) (kind : m.kind ≡ kinds.Forgotten)
      (y : Took) (took : u.took ≡ Some y) where
    abbrev p : Place
    p = place_at t.places u.node

    abbrev k0 : NodeState
    k0 = heard k (inputs.Message m)

    abbrev d : TurnDraft
    d = forgotten_turn k0 m.from (status_of k0 m.to)

    draft_is : draft_of p k u.input ≡ d
    draft_is = ap (draft_of p k) it ∙ ap (λ x. kind_turn p k0 m.from m.to x (status_of k0 m.to)) kind

    open calm t s_lawful u k may uncut none m it y took d draft_is use {even, at_to, here, post_flies, flown}

    abbrev ks : List KeptRow
    ks = k.stored.durable.kept

    -- ---- what the turn does

    -- no row hears it that is to forget, from toward; or one forgets
    data Result (x : TurnDraft) : Type 0 where
      Rests : ((s : KeptRow) → kept_row_at k m.to ≡ Some s → IsToForget s → s.toward ≡ Some m.from → ⊥) → x ≡ nothing k0 → Result x
      Forgets : (s : KeptRow) → kept_row_at k m.to ≡ Some s → IsToForget s → s.toward ≡ Some m.from → x ≡ forgets k0 s → Result x

    row_result : (s : KeptRow) → kept_row_at k m.to ≡ Some s → Result (on_forgotten k0 s m.from)
    unfolding next_on_forgotten
    row_result s at = by (knows_commit s.decision) refl (is_branch m.from s.toward) refl s.forgot refl
      where
        this : (w : KeptRow) → kept_row_at k m.to ≡ Some w → w ≡ s
        this w found = (let both : Some w ≡ Some s = sym found ∙ at in cc)

        by : (a : Bool) → knows_commit s.decision ≡ a → (b : Bool) → is_branch m.from s.toward ≡ b → (c : Bool) → s.forgot ≡ c → Result (next_turn k0 s m.from (if a && (b && not c) then nexts.Forget else nexts.Rest))
        by true knows true on false fresh = Forgets s at (knows, fresh) (branch_found m.from s.toward on) refl
        by true knows true on true has =
            Rests (λ w found waits toward. (let is : w ≡ s = this w found in let still : s.forgot ≡ false = ap (λ (z : KeptRow). z.forgot) (sym is) ∙ waits.1 in absurd (cc (has, still)))) refl
        by true knows false off c has =
            Rests (λ w found waits toward.
            (let on : is_branch m.from s.toward ≡ true = ap (is_branch m.from) (ap (λ (z : KeptRow). z.toward) (sym (this w found)) ∙ toward) ∙ same_from_equal m.from m.from refl in absurd (cc (on, off)))) refl
        by false knows b on c has =
            Rests (λ w found waits toward. (let its : knows_commit s.decision ≡ true = ap (λ (z : KeptRow). knows_commit z.decision) (sym (this w found)) ∙ waits.0 in absurd (cc (its, knows)))) refl

    result_by : (o : Option Branch) (q : Option KeptRow) → branch_at k m.to ≡ o → kept_row_at k m.to ≡ q → Result (forgotten_turn k0 m.from (live_or o q))
    result_by None (Some s) live row = row_result s row
    result_by None None live row = Rests (λ s found waits toward. absurd (cc (row, found))) refl
    result_by (Some x) q live row =
        let events = nodes_are_as_events t s_lawful u.node k may.up in
        let found_live = live_so k m.to x live in
        Rests (λ s found waits toward.
        (all_found (RowIs e) kept_row_id ks m.to s events.1 found).left
        (ap (exit e) (item_is kept_row_id ks m.to s found ∙ sym (item_is live_id k.lives m.to x.live found_live)) ∙ all_found (λ (z : Live). exit e z.me ≡ None) live_id k.lives m.to x.live events.0 found_live)) refl

    result : Result d
    unfolding status_of
    result = result_by (branch_at k m.to) (kept_row_at k m.to) refl refl

    -- ---- what it leaves

    -- a row that is to forget stays, or it is the one that forgets
    data RowAfter (b : BranchId) (r : RowIsToForget f b) : Type 0 where
      Stays : (w : RowIsToForget g b) → w.row ≡ r.row → RowAfter b r
      Has_forgotten : (s : KeptRow) → kept_row_at k m.to ≡ Some s → IsToForget s → s.toward ≡ Some m.from → d ≡ forgets k0 s → b ≡ m.to → r.row ≡ s → RowAfter b r

    row_after : (b : BranchId) (r : RowIsToForget f b) → RowAfter b r
    row_after b r = elim (cases_nat u.node b.node) [
      | inr other ↦ Stays (record { node = r.node; up = (turn_elsewhere t.places t.commands f even u b.node other).0 ∙ r.up; row = r.row; found = r.found; waits = r.waits }) refl
      | inl at ↦ (let both : Some k ≡ Some r.node = sym may.up ∙ subst (λ n. node_at f n ≡ Some r.node) (sym at) r.up in let same_node : k ≡ r.node = cc in
          at_node (subst (λ n. node_at g n ≡ Some d.after) at here) (subst (λ (z : NodeState). kept_row_at z b ≡ Some r.row) (sym same_node) r.found) result)
    ]
      where
        still : node_at g b.node ≡ Some d.after → kept_row_at d.after b ≡ Some r.row → RowAfter b r
        still up found = Stays (record { node = d.after; up = up; row = r.row; found = found; waits = r.waits }) refl

        at_node : node_at g b.node ≡ Some d.after → kept_row_at k b ≡ Some r.row → Result d → RowAfter b r
        at_node up found (Rests none_row is) = still up (ap (λ (x : TurnDraft). kept_row_at x.after b) is ∙ found)
        at_node up found (Forgets s row waits toward is) = by (same s.me b) refl
          where
            by : (q : Bool) → same s.me b ≡ q → RowAfter b r
            by true that =
                let is_to : b ≡ m.to = sym (equal_from_same s.me b that) ∙ item_is kept_row_id ks m.to s row in
                Has_forgotten s row waits toward is is_to (let both_rows : Some r.row ≡ Some s = sym found ∙ (ap (kept_row_at k) is_to ∙ row) in cc)
            by false other = still up (ap (λ (x : TurnDraft). kept_row_at x.after b) is ∙ (forgot_leaves k s.me b other ∙ found))

    flies_on : (test : Kind → Bool) (a b : BranchId) → test kinds.Forgotten ≡ false → Flies test f a b → Flies test g a b
    flies_on test a b not_it fly = elim (flown test a b fly) [
      | inl on ↦ on
      | inr taken_one ↦ (let it_does : test kinds.Forgotten ≡ true = ap test (sym kind) ∙ taken_one.2 in absurd (cc (not_it, it_does)))
    ]

    -- who told Forgotten to one beyond it has forgotten
    told : Has (Send_forgotten m.from m.to) e
    told =
        let came : Came u.input m.from m.to kinds.Forgotten = record { scn = m.scn; is = it ∙ ap (λ x. inputs.Message (record { from = m.from; to = m.to; scn = m.scn; kind = x })) kind } in
        came_said f e (run_stands t s_lawful).2 k u.node u.input u.took may.comes m.from m.to kinds.Forgotten came

    not_quiet : (s : KeptRow) → kept_row_at k m.to ≡ Some s → IsToForget s → exit e m.to ≡ Some Quiet → ⊥
    not_quiet s row waits quiet = by s.decision (all_found (RowIs e) kept_row_id ks m.to s (nodes_are_as_events t s_lawful u.node k may.up).1 row).known waits.0
      where
        its : exit e s.me ≡ Some Quiet
        its = ap (exit e) (item_is kept_row_id ks m.to s row) ∙ quiet

        i : Inv forest e
        i = inv_at t s_lawful t.trace part

        by : (o : Option Decision) → IsKnown e s o → knows_commit o ≡ true → ⊥
        by None is knows = absurd cc
        by (Some decisions.Rollback) is knows = absurd cc
        by (Some (decisions.Commit n)) (inl decided) knows = absurd (cc (decided, its))
        by (Some (decisions.Commit n)) (inr learnt) knows = (let sealed = (i.learned_sealed s.me (decisions.Commit n) learnt).1 in absurd (cc (sealed, its)))

    -- so nobody that has not forgotten waits for the one that forgets now
    not_awaited : (s : KeptRow) → kept_row_at k m.to ≡ Some s → IsToForget s → s.toward ≡ Some m.from → (b : BranchId) → (Has (Forget b) e → ⊥) → Beyond forest m.to b → ⊥
    not_awaited s row waits toward b fresh edge = by (all_found (λ (z : KeptRow). RowFits forest z.me z.toward) kept_row_id ks m.to s (rows_fit t s_lawful t.trace part u.node k may.up) row)
      where
        by : RowFits forest s.me s.toward → ⊥
        by (inr site) = (let nobody = site.0 in absurd (cc (nobody, toward)))
        by (inl on) =
            let both : Some (forest.toward s.me) ≡ Some m.from = sym on.0 ∙ toward in
            let next : forest.toward s.me ≡ m.from = cc in
            let from : b ≡ m.from = sym edge.next ∙ (ap forest.toward (sym (item_is kept_row_id ks m.to s row)) ∙ next) in
            elim (tellers_have_forgotten t s_lawful m.from m.to told (subst (Beyond forest m.to) from edge)) [
              | inl quiet ↦ not_quiet s row waits quiet
              | inr has ↦ fresh (subst (λ c. Has (Forget c) e) (sym from) has)
            ]

    -- ---- rows

    awaited_on : (b x : BranchId) → (Has (Forget b) e → ⊥) → Beyond forest x b → Awaited f b x → Awaited g b x
    awaited_on b x fresh edge (Is_sent fly) = Is_sent (flies_on is_committed b x refl fly)
    awaited_on b x fresh edge (Is_acked fly) = Is_acked (flies_on is_ack x b refl fly)
    awaited_on b x fresh edge (Waits_too r some) = by (row_after x r)
      where
        by : RowAfter x r → Awaited g b x
        by (Stays w same_row) = Waits_too w (ap all_acked same_row ∙ some)
        by (Has_forgotten s row waits toward is to same_row) = absurd (not_awaited s row waits toward b fresh (subst (λ c. Beyond forest c b) to edge))

    reported_on : (b c : BranchId) → (m.to ≡ b → m.from ≡ c → ⊥) → Reported f b c → Reported g b c
    reported_on b c not_told (Acks fly) = Acks (flies_on is_ack b c refl fly)
    reported_on b c not_told (Is_released fly) = elim (flown is_forgotten c b fly) [ inl on ↦ Is_released on | inr that ↦ absurd (not_told that.1 that.0) ]
    reported_on b c not_told (Is_noted r holds) = by (row_after c r)
      where
        by : RowAfter c r → Reported g b c
        by (Stays w same_row) = Is_noted w (ap (λ (s : KeptRow). holds_ack s b) same_row ∙ holds)
        by (Has_forgotten s row waits toward is to same_row) =
            let among = acked_in b (beyond s) (ap (λ (z : KeptRow). holds_ack z b) (sym same_row) ∙ holds) in
            let one : Post = post_one s.me kinds.Forgotten among.0.branch in
            let said : IsIn one d.says
            = subst (λ (x : TurnDraft). IsIn one x.says) (sym is) (in_map (post_one s.me kinds.Forgotten) among.0.branch (map (λ (z : Neighbor). z.branch) (beyond s)) (in_map (λ (z : Neighbor). z.branch) among.0 (beyond s) among.1)) in
            Is_released (subst (λ z. Flies is_forgotten g z b) (item_is kept_row_id ks m.to s row ∙ sym to) (subst (Flies is_forgotten g s.me) among.2 (post_flies is_forgotten one said refl)))

    -- this is not told to it by toward
    abbrev NotTold : KeptRow → Type 0
    NotTold x = IsToForget x → m.to ≡ x.me → x.toward ≡ Some m.from → ⊥

    abbrev WaitsHere : KeptRow → Type 0
    WaitsHere s = (RowHolds e s × AllByRecursion (λ (z : Neighbor). Beyond forest z.branch s.me) (beyond s)) × AwaitsAll f s

    waits_on : (s : KeptRow) → WaitsHere s → NotTold s → AwaitsAll g s
    waits_on s so not_told is =
        all_weaker (λ (z : Neighbor). Beyond forest z.branch s.me × (z.acked ≡ false → Awaited f s.me z.branch)) (λ (z : Neighbor). z.acked ≡ false → Awaited g s.me z.branch)
        (λ z was missing. awaited_on s.me z.branch (λ has. (let forgot : s.forgot ≡ true = so.0.0.forgets has in let fresh : s.forgot ≡ false = is.1 in absurd (cc (forgot, fresh)))) was.0 (was.1 missing)) (beyond s)
        (all_both _ _ (beyond s) so.0.1 (so.1 is))

    reports_on : (s : KeptRow) → ReportsSo f s → NotTold s → ReportsSo g s
    reports_on s so not_told is all c toward = reported_on s.me c (λ at from. not_told is at (toward ∙ ap Some (sym from))) (so is all c toward)

    waits_now : (n : ℕ) (i : NodeState) → node_at f n ≡ Some i → AllByRecursion (AwaitsAll f) i.stored.durable.kept → AllByRecursion WaitsHere i.stored.durable.kept
    waits_now n i up all = all_both _ _ i.stored.durable.kept (all_both _ _ i.stored.durable.kept (rows_hold t s_lawful n i up) (rows_beyond t s_lawful n i up)) all

    -- ---- all of them

    module _ (P Q : KeptRow → Type 0) (each : (x : KeptRow) → P x → NotTold x → Q x) (gone : (x : KeptRow) → (IsToForget x → ⊥) → Q x) where
      abbrev Found : KeptRow → Type 0
      Found x = (item_at kept_row_id ks x.me ≡ Some x) × P x

      forgets_all : (s : KeptRow) → s.me ≡ m.to → AllByRecursion Found ks → AllByRecursion Q (applied k0.stored (records.Forgot s.me)).durable.kept
      unfolding applied durable_after kept_after
      forgets_all s me all =
          rows_changed Found Q s.me forgot_as (λ x at so. gone (forgot_as x) (λ waits. (let fresh : true ≡ false = waits.1 in absurd (cc (fresh)))))
          (λ x apart so. each x so.1 (λ waits at toward. (let that : same x.me s.me ≡ true = same_from_equal x.me s.me (sym at ∙ sym me) in absurd (cc (that, apart)))))
          (drop_where (is_done s.me) ks) (rows_left Found Found (is_done s.me) (λ x stays so. so) ks all)

      rows_after : (x : TurnDraft) → Result x → AllByRecursion Found ks → AllByRecursion Q x.after.stored.durable.kept
      rows_after x (Rests none_row is) all =
          subst (λ (z : TurnDraft). AllByRecursion Q z.after.stored.durable.kept) (sym is)
          (all_weaker Found Q (λ z so. each z so.1 (λ waits at toward. none_row z (subst (λ b. kept_row_at k b ≡ Some z) (sym at) so.0) waits toward)) ks all)
      rows_after x (Forgets s row waits toward is) all = subst (λ (z : TurnDraft). AllByRecursion Q z.after.stored.durable.kept) (sym is) (forgets_all s (item_is kept_row_id ks m.to s row) all)

      at_each : (R : ℕ → Type 0) → ((n : ℕ) → R n → (i : NodeState) → node_at f n ≡ Some i → AllByRecursion P i.stored.durable.kept) → (n : ℕ) → R n → (j : NodeState) → node_at g n ≡ Some j → AllByRecursion Q j.stored.durable.kept
      at_each R was n r j up = elim (cases_nat u.node n) [
        | inl at ↦ (let both : Some d.after ≡ Some j = sym here ∙ subst (λ x. node_at g x ≡ Some j) (sym at) up in let its : d.after ≡ j = cc in
            subst (λ (x : NodeState). AllByRecursion Q x.stored.durable.kept) its
            (rows_after d result (all_both _ _ ks (rows_found t s_lawful u.node k may.up) (was u.node (subst R (sym at) r) k may.up))))
        | inr other ↦ (let upf : node_at f n ≡ Some j = sym (turn_elsewhere t.places t.commands f even u n other).0 ∙ up in
            all_weaker (λ s. (s.me.node ≡ n) × P s) Q (λ s so. each s so.1 (λ waits at toward. other (sym at_to ∙ (ap (λ (x : BranchId). x.node) at ∙ so.0)))) j.stored.durable.kept
            (all_both _ _ j.stored.durable.kept (ids_name_their_node t s_lawful n j upf).rows (was n r j upf)))
      ]

    module _ (R : ℕ → Type 0) (now : Owed R f) where
      -- Forgotten that comes leaves all so
      pub forgotten_owed : Owed R g
      forgotten_owed = record {
        waits = at_each WaitsHere (AwaitsAll g) waits_on (λ x none_waits waits. absurd (none_waits waits)) R (λ n r i up. waits_now n i up (now.waits n r i up));
        reports = at_each (ReportsSo f) (ReportsSo g) reports_on (λ x none_waits waits. absurd (none_waits waits)) R now.reports;
      }
