-- A calm turn of RECO: its node's rows that know a commit have told it to those whose Ack is missing, or have given their own.
use Rattle.std.proofs.Common.{◌≡◌, ℕ, ◌⊎◌, ◌&&◌, not, Bool, true, false, if◌then◌else◌, cond, List, [], ◌∷◌, map, filter, length, Option, Some, None, inl, inr, refl, sym, ap, subst, ◌∙◌}
use Rattle.std.specs.List.{AllByRecursion}
use Rattle.net_bag.specs.Net.{lost_at_once}
use Rattle.commit_forget.specs.declared.next.Beyond.{Beyond as Neighbor}
use Rattle.commit_forget.specs.Beyond.{beyond, all_acked}
use Rattle.commit_forget.specs.Next.{knows_commit}
use Rattle.node_rules.specs.Data.{BranchId, Decision, Kind, Place, Post, KeptRow}
use Rattle.node_rules.specs.Data.decisions
use Rattle.node_rules.specs.Data.inputs
use Rattle.node_rules.specs.Data.kinds
use Rattle.node_rules.specs.NodeState.{NodeState, post_one, to_one}
use Rattle.node_rules.specs.Recovery.{asks_live, asks_kept, acks_again, recovers}
use Rattle.run_rules.specs.Data.{Command, Turn}
use Rattle.run_rules.specs.Data.happenings
use Rattle.run_rules.specs.Facts.{Facts, node_at, taken, facts_after}
use Rattle.run_rules.specs.Lawful.{MayTurn}
use Rattle.run_rules.proofs.ListLemmas.{all_weaker}
use Rattle.commit_laws.proofs.ListLemmas.{IsIn, all_in}
use Rattle.commit_forget_laws.specs.RowLaws.{is_ack}
use Rattle.settle_laws.specs.Interval.{Flies}
use Rattle.settle_laws.specs.OweLaws.{is_committed, is_forgotten, RowIsToForget, Awaited, Is_sent, Is_acked, Waits_too, Reported, Acks, Is_released, Is_noted, AwaitsAll, ReportsSo, Owed}
use Rattle.settle_laws.proofs.FlyLemmas.{in_before, in_behind, in_map}
use Rattle.settle_laws.proofs.RecoTurnLemmas.{asking_flies, flies_on, nodes_same, reco_here}

-- what passes a test is among those that do
in_filter : {A : Type 0} (test : A → Bool) (xs : List A) (a : A) → IsIn a xs → test a ≡ true → IsIn a (filter test xs)
in_filter test [] a at is = absurd at
in_filter test (x ∷ xs) a (inl here) is = (let passes : test x ≡ true = ap test here ∙ is in subst (λ (w : Bool). IsIn a (cond w (x ∷ filter test xs) (filter test xs))) (sym passes) (inl here))
in_filter test (x ∷ xs) a (inr at) is = by (test x) (in_filter test xs a at is)
  where
    by : (w : Bool) → IsIn a (filter test xs) → IsIn a (cond w (x ∷ filter test xs) (filter test xs))
    by true rest = inr rest
    by false rest = rest

module _ (places : List Place) (asked : List Command) (f : Facts) (even : length f.nodes ≡ length f.records) (u : Turn) (k : NodeState) (may : MayTurn places f u k)
    (uncut : u.cut ≡ false) (none : lost_at_once (taken f.net u.took) u.sent ≡ []) (reco : u.input ≡ inputs.Reco) where
  abbrev g : Facts
  g = facts_after places asked f (happenings.Turn u)

  flies : (test : Kind → Bool) (from to : BranchId) → Flies test f from to → Flies test g from to
  flies = flies_on places asked f even u k may uncut none reco

  abbrev row_same : (b : BranchId) → RowIsToForget f b → RowIsToForget g b
  row_same b r = record { node = r.node; up = nodes_same places asked f even u k may uncut none reco b.node ∙ r.up; row = r.row; found = r.found; waits = r.waits }

  -- ---- what was so before the turn

  awaited_same : (b x : BranchId) → Awaited f b x → Awaited g b x
  awaited_same b x (Is_sent fly) = Is_sent (flies is_committed b x fly)
  awaited_same b x (Is_acked fly) = Is_acked (flies is_ack x b fly)
  awaited_same b x (Waits_too r some) = Waits_too (row_same x r) some

  reported_same : (b d : BranchId) → Reported f b d → Reported g b d
  reported_same b d (Acks fly) = Acks (flies is_ack b d fly)
  reported_same b d (Is_released fly) = Is_released (flies is_forgotten d b fly)
  reported_same b d (Is_noted r holds) = Is_noted (row_same d r) holds

  waits_same : (s : KeptRow) → AwaitsAll f s → AwaitsAll g s
  waits_same s so is = all_weaker (λ (y : Neighbor). y.acked ≡ false → Awaited f s.me y.branch) (λ (y : Neighbor). y.acked ≡ false → Awaited g s.me y.branch) (λ y was missing. awaited_same s.me y.branch (was missing)) (beyond s) (so is)

  reports_same : (s : KeptRow) → ReportsSo f s → ReportsSo g s
  reports_same s so is all d toward = reported_same s.me d (so is all d toward)

  -- ---- the node's own rows

  row_flies : (test : Kind → Bool) (s : KeptRow) → IsIn s k.stored.durable.kept → (x : Post) → IsIn x (recovers s s.decision) → test x.kind ≡ true → Flies test g x.from x.to
  row_flies test s at x its is =
      asking_flies places asked f even u k may uncut none reco test (asks_kept s) x
      (in_behind (asks_kept s) (map asks_live k.lives) (map asks_kept k.stored.durable.kept) (in_map asks_kept s k.stored.durable.kept at)) its is

  own_waits : (s : KeptRow) → IsIn s k.stored.durable.kept → AwaitsAll g s
  own_waits s at is = all_in (λ (y : Neighbor). y.acked ≡ false → Awaited g s.me y.branch) (beyond s) (λ y near missing. by s.decision refl is.0 y near missing)
    where
      by : (o : Option Decision) → s.decision ≡ o → knows_commit o ≡ true → (y : Neighbor) → IsIn y (beyond s) → y.acked ≡ false → Awaited g s.me y.branch
      by None known knows y near missing = absurd cc
      by (Some decisions.Rollback) known knows y near missing = absurd cc
      by (Some (decisions.Commit n)) known knows y near missing =
          let unheard : List Neighbor = filter (λ (b : Neighbor). not b.acked) (beyond s) in
          let among : IsIn y unheard = in_filter (λ (b : Neighbor). not b.acked) (beyond s) y near (ap not missing) in
          let one : Post = post_one s.me (kinds.Committed n) y.branch in
          let said : IsIn one (recovers s (Some (decisions.Commit n)))
          = in_before one (map (post_one s.me (kinds.Committed n)) (map (λ (b : Neighbor). b.branch) unheard)) (acks_again s)
          (in_map (post_one s.me (kinds.Committed n)) y.branch (map (λ (b : Neighbor). b.branch) unheard) (in_map (λ (b : Neighbor). b.branch) y unheard among)) in
          Is_sent (row_flies is_committed s at one (subst (λ (o : Option Decision). IsIn one (recovers s o)) (sym known) said) refl)

  own_reports : (s : KeptRow) → IsIn s k.stored.durable.kept → ReportsSo g s
  own_reports s at is all d toward = by s.decision refl is.0
    where
      acks : IsIn (post_one s.me kinds.Ack d) (acks_again s)
      acks =
          let both : (all_acked s && not s.forgot) ≡ true = ap (λ (w : Bool). w && not s.forgot) all ∙ ap not is.1 in
          subst (λ (w : Bool). IsIn (post_one s.me kinds.Ack d) (if w then to_one s.me kinds.Ack s.toward else [])) (sym both)
          (subst (λ (o : Option BranchId). IsIn (post_one s.me kinds.Ack d) (to_one s.me kinds.Ack o)) (sym toward) (inl refl))

      by : (o : Option Decision) → s.decision ≡ o → knows_commit o ≡ true → Reported g s.me d
      by None known knows = absurd cc
      by (Some decisions.Rollback) known knows = absurd cc
      by (Some (decisions.Commit n)) known knows =
          let one : Post = post_one s.me kinds.Ack d in
          let told : List Post = map (post_one s.me (kinds.Committed n)) (map (λ (b : Neighbor). b.branch) (filter (λ (b : Neighbor). not b.acked) (beyond s))) in
          let said : IsIn one (recovers s (Some (decisions.Commit n))) = in_behind one told (acks_again s) acks in
          Acks (row_flies is_ack s at one (subst (λ (o : Option Decision). IsIn one (recovers s o)) (sym known) said) refl)

  module _ (R : ℕ → Type 0) (now : Owed R f) where
    its : (n : ℕ) → u.node ≡ n → (j : NodeState) → node_at g n ≡ Some j → k ≡ j
    its n at j up = (let both : Some k ≡ Some j = sym (reco_here places asked f even u k may uncut none reco) ∙ subst (λ i. node_at g i ≡ Some j) (sym at) up in cc)

    before : (n : ℕ) (j : NodeState) → node_at g n ≡ Some j → node_at f n ≡ Some j
    before n j up = sym (nodes_same places asked f even u k may uncut none reco n) ∙ up

    -- the same, and of this node too
    pub reco_owed : Owed (λ n. R n ⊎ (u.node ≡ n)) g
    reco_owed = record {
      waits = λ n r j up. elim r [
        | inl old ↦ all_weaker (AwaitsAll f) (AwaitsAll g) waits_same j.stored.durable.kept (now.waits n old j (before n j up))
        | inr at ↦ subst (λ (x : NodeState). AllByRecursion (AwaitsAll g) x.stored.durable.kept) (its n at j up) (all_in (AwaitsAll g) k.stored.durable.kept own_waits)
      ];
      reports = λ n r j up. elim r [
        | inl old ↦ all_weaker (ReportsSo f) (ReportsSo g) reports_same j.stored.durable.kept (now.reports n old j (before n j up))
        | inr at ↦ subst (λ (x : NodeState). AllByRecursion (ReportsSo g) x.stored.durable.kept) (its n at j up) (all_in (ReportsSo g) k.stored.durable.kept own_reports)
      ];
    }

-- before any node of the stretch recovered there is nothing to show
pub first_owed : (f : Facts) → Owed (λ n. ⊥) f
first_owed f = record { waits = λ n none. absurd none; reports = λ n none. absurd none }
