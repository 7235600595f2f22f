-- A calm turn in which a message comes other than Committed, Ack and Forgotten: what was so of rows that know a commit stays so.
use Rattle.std.proofs.Common.{◌≡◌, ℕ, ◌+◌, Bool, false, List, [], Some, None, inl, inr, refl, sym, ap, subst, ◌∙◌}
use Rattle.std.specs.List.{AllByRecursion}
use Rattle.tran_ids.proofs.ListedLemmas.{item_is}
use Rattle.commit_forget.specs.declared.next.Beyond.{Beyond as Neighbor}
use Rattle.commit_forget.specs.Beyond.{beyond, all_acked}
use Rattle.net_bag.specs.Net.{lost_at_once}
use Rattle.agreement.specs.Events.{exit}
use Rattle.redo_record.specs.Rows.{decided_as}
use Rattle.node_rules.specs.Data.{BranchId, Kind, KeptRow, Live, Msg, Place}
use Rattle.node_rules.specs.Data.inputs
use Rattle.node_rules.specs.Data.kinds
use Rattle.node_rules.specs.NodeState.{NodeState, TurnDraft, live_id, kept_row_at, kept_row_id, post_one}
use Rattle.node_rules.specs.Prepare.{decided_of, own_changes, site_neighbors}
use Rattle.node_rules.specs.Turn.{heard, draft_of}
use Rattle.node_rules.proofs.Steps.{Step}
use Rattle.run_rules.specs.Data.{Took, Turn}
use Rattle.run_rules.specs.Data.happenings
use Rattle.run_rules.specs.Facts.{Facts, place_at, node_at, taken, facts_after}
use Rattle.run_rules.specs.Lawful.{MayTurn, History, IsLawfulRun}
use Rattle.run_rules.proofs.AtNodeLemmas.{turn_elsewhere}
use Rattle.run_rules.proofs.ListLemmas.{all_weaker}
use Rattle.run_base_laws.specs.EventRows.{RowIs}
use Rattle.run_base_laws.specs.RunEvents.{events_of}
use Rattle.run_base_laws.proofs.EventsStandLemmas.{nodes_are_as_events}
use Rattle.run_base_laws.proofs.LawfulLemmas.{serves}
use Rattle.run_base_laws.proofs.OwnLemmas.{all_found}
use Rattle.run_base_laws.proofs.TurnEventLemmas.{cases_nat}
use Rattle.tree_laws.proofs.PrefixLemmas.{f_at}
use Rattle.commit_laws.proofs.ListLemmas.{IsIn}
use Rattle.commit_forget_laws.specs.RowLaws.{is_ack}
use Rattle.commit_forget_laws.proofs.FoundRowLemmas.{rows_found}
use Rattle.settle_laws.specs.Interval.{Flies}
use Rattle.settle_laws.specs.OweLaws.{is_committed, is_forgotten, IsToForget, RowIsToForget, Awaited, Is_sent, Is_acked, Waits_too, Reported, Acks, Is_released, Is_noted, AwaitsAll, ReportsSo, holds_ack, Owed}
use Rattle.settle_laws.proofs.CalmTurn.{calm}
use Rattle.settle_laws.proofs.FlyLemmas.{in_map}
use Rattle.settle_laws.proofs.StayLemmas.{NotBoth}
use Rattle.settle_laws.proofs.OweStayLemmas.{told_all, waiting_stay, rows_waited, WaitedOrDecides, DecidesBy, By_decision}

module _ (t : History) (s_lawful : IsLawfulRun t) (u : Turn) (k : NodeState) where
  abbrev pub f : Facts
  f = f_at t t.trace

  abbrev pub g : Facts
  g = facts_after t.places t.commands f (happenings.Turn u)

  module _ (may : MayTurn t.places f u k) (uncut : u.cut ≡ false) (none : lost_at_once (taken f.net u.took) u.sent ≡ []) (m : Msg) (it : u.input ≡ inputs.Message m) (y : Took) (took : u.took ≡ Some y)
      (no_commit : is_committed m.kind ≡ false) (no_ack : is_ack m.kind ≡ false) (no_forgotten : is_forgotten m.kind ≡ false) where
    abbrev p : Place
    p = place_at t.places u.node

    abbrev d : TurnDraft
    d = draft_of p k (inputs.Message m)

    open calm t s_lawful u k may uncut none m it y took d (ap (draft_of p k) it) use {even, here, post_flies, flown}

    step : Step p (inputs.Message m) (heard k (inputs.Message m)) d
    step = subst (λ i. Step p i (heard k i) (draft_of p k i)) it (serves t.places f u k may).step

    abbrev ks : List KeptRow
    ks = k.stored.durable.kept

    not_both : NotBoth k
    not_both b l s live row =
        let events = nodes_are_as_events t s_lawful u.node k may.up in
        (all_found (RowIs (events_of t)) kept_row_id ks b s events.1 row).left
        (ap (exit (events_of t)) (item_is kept_row_id ks b s row ∙ sym (item_is live_id k.lives b l live)) ∙ all_found (λ (x : Live). exit (events_of t) x.me ≡ None) live_id k.lives b l events.0 live)

    flies_on : (test : Kind → Bool) (a b : BranchId) → test m.kind ≡ false → Flies test f a b → Flies test g a b
    flies_on test a b not_it fly = elim (flown test a b fly) [
      | inl on ↦ on
      | inr taken_one ↦ (let it_does = taken_one.2 in absurd (cc (not_it, it_does)))
    ]

    -- a row that is to forget is there after as it was
    row_on : (b : BranchId) (r : RowIsToForget f b) → (w : RowIsToForget g b) × (w.row ≡ r.row)
    row_on b r = elim (cases_nat u.node b.node) [
      | inr other ↦ (record { node = r.node; up = (turn_elsewhere t.places t.commands f even u b.node other).0 ∙ r.up; row = r.row; found = r.found; waits = r.waits }, refl)
      | inl at ↦ (let both : Some k ≡ Some r.node = sym may.up ∙ subst (λ n. node_at f n ≡ Some r.node) (sym at) r.up in let same_node : k ≡ r.node = cc in
          let was : kept_row_at k b ≡ Some r.row = subst (λ (x : NodeState). kept_row_at x b ≡ Some r.row) (sym same_node) r.found in
          (record { node = d.after; up = subst (λ n. node_at g n ≡ Some d.after) at here; row = r.row; found = waiting_stay p m no_commit no_ack no_forgotten step not_both b r.row was r.waits; waits = r.waits }, refl))
    ]

    awaited_on : (b x : BranchId) → Awaited f b x → Awaited g b x
    awaited_on b x (Is_sent fly) = Is_sent (flies_on is_committed b x no_commit fly)
    awaited_on b x (Is_acked fly) = Is_acked (flies_on is_ack x b no_ack fly)
    awaited_on b x (Waits_too r some) = (let on = row_on x r in Waits_too on.0 (ap all_acked on.1 ∙ some))

    reported_on : (b e : BranchId) → Reported f b e → Reported g b e
    reported_on b e (Acks fly) = Acks (flies_on is_ack b e no_ack fly)
    reported_on b e (Is_released fly) = Is_released (flies_on is_forgotten e b no_forgotten fly)
    reported_on b e (Is_noted r holds) = (let on = row_on e r in Is_noted on.0 (ap (λ (s : KeptRow). holds_ack s b) on.1 ∙ holds))

    waits_on : (s : KeptRow) → AwaitsAll f s → AwaitsAll g s
    waits_on s so is = all_weaker (λ (x : Neighbor). x.acked ≡ false → Awaited f s.me x.branch) (λ (x : Neighbor). x.acked ≡ false → Awaited g s.me x.branch) (λ x was missing. awaited_on s.me x.branch (was missing)) (beyond s) (so is)

    reports_on : (s : KeptRow) → ReportsSo f s → ReportsSo g s
    reports_on s so is all e toward = reported_on s.me e (so is all e toward)

    -- ---- a row of a branch that decided in the turn

    site_waits : (s : KeptRow) → DecidesBy p m no_commit no_ack no_forgotten d s → AwaitsAll g s
    site_waits s (By_decision j l below is row) waits =
        subst (λ (x : KeptRow). AllByRecursion (λ (z : Neighbor). z.acked ≡ false → Awaited g x.me z.branch) (beyond x)) (sym row)
        (all_weaker (λ (z : Neighbor). IsIn z.branch (site_neighbors l)) (λ (z : Neighbor). z.acked ≡ false → Awaited g l.me z.branch) (λ z near missing. Is_sent (told z.branch near))
        (beyond (decided_as (decided_of (j.clock + 1) l (own_changes j l.me)))) (told_all (j.clock + 1) j l))
      where
        told : (b : BranchId) → IsIn b (site_neighbors l) → Flies is_committed g l.me b
        told b near =
            let one = post_one l.me (kinds.Committed (j.clock + 1)) b in
            post_flies is_committed one (subst (λ (x : TurnDraft). IsIn one x.says) (sym is) (in_map (post_one l.me (kinds.Committed (j.clock + 1))) b (site_neighbors l) near)) refl

    site_reports : (s : KeptRow) → DecidesBy p m no_commit no_ack no_forgotten d s → ReportsSo g s
    site_reports s (By_decision j l below is row) waits all e toward = (let none_toward : s.toward ≡ None = ap (λ (x : KeptRow). x.toward) row in absurd (cc (toward, none_toward)))

    -- ---- all of them

    waited : AllByRecursion (WaitedOrDecides p m no_commit no_ack no_forgotten k d) d.after.stored.durable.kept
    waited = rows_waited p m no_commit no_ack no_forgotten k step (all_weaker _ _ (λ s at waits. at) ks (rows_found t s_lawful u.node k may.up))

    own : (P Q : KeptRow → Type 0) → ((s : KeptRow) → (IsToForget s → Q s) → Q s) → ((s : KeptRow) → P s → Q s) → ((s : KeptRow) → DecidesBy p m no_commit no_ack no_forgotten d s → Q s) → AllByRecursion P ks → AllByRecursion Q d.after.stored.durable.kept
    own P Q needs old new all =
        all_weaker (WaitedOrDecides p m no_commit no_ack no_forgotten k d) Q
        (λ s so. needs s (λ waits. elim (so waits) [ inl was ↦ old s (all_found P kept_row_id ks s.me s all was) | inr decides ↦ new s decides ])) d.after.stored.durable.kept waited

    module _ (R : ℕ → Type 0) (now : Owed R f) where
      at_each : (P Q : KeptRow → Type 0) → ((s : KeptRow) → (IsToForget s → Q s) → Q s) → ((s : KeptRow) → P s → Q s) → ((s : KeptRow) → DecidesBy p m no_commit no_ack no_forgotten d s → Q s)
          → ((n : ℕ) → R n → (i : NodeState) → node_at f n ≡ Some i → AllByRecursion P i.stored.durable.kept) → (n : ℕ) → R n → (j : NodeState) → node_at g n ≡ Some j → AllByRecursion Q j.stored.durable.kept
      at_each P Q needs old new was n r j up = elim (cases_nat u.node n) [
        | inl at ↦ (let both : Some d.after ≡ Some j = sym here ∙ subst (λ x. node_at g x ≡ Some j) (sym at) up in let its : d.after ≡ j = cc in
            subst (λ (x : NodeState). AllByRecursion Q x.stored.durable.kept) its (own P Q needs old new (was u.node (subst R (sym at) r) k may.up)))
        | inr other ↦ (let upf : node_at f n ≡ Some j = sym (turn_elsewhere t.places t.commands f even u n other).0 ∙ up in all_weaker P Q old j.stored.durable.kept (was n r j upf))
      ]

      -- such a message leaves all so
      pub others_owed : Owed R g
      others_owed = record {
        waits = at_each (AwaitsAll f) (AwaitsAll g) (λ s so waits. so waits waits) waits_on site_waits now.waits;
        reports = at_each (ReportsSo f) (ReportsSo g) (λ s so waits. so waits waits) reports_on site_reports now.reports;
      }
