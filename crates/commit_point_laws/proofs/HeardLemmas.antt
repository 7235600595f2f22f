-- In every lawful run a branch to which CommitPoint was delivered is live no more: it was Ready, and the walk goes on from it
-- or ends there.
use Rattle.std.proofs.Common.{◌≡◌, ◌≢◌, Bool, true, false, [], ◌∷◌, Option, Some, None, inl, inr, refl, sym, ap, subst, ◌∙◌}
use Rattle.tran_ids.proofs.ListedLemmas.{item_is, drop_gone}
use Rattle.session_tree.specs.Tree.{step}
use Rattle.session_tree.specs.declared.act.Walk.{Walk}
use Rattle.session_tree.specs.declared.act.Walk.TheVariants as walks
use Rattle.agreement.specs.Events.{Exit, exit}
use Rattle.node_rules.specs.Data.{BranchId, Decision, Kind, Live, Msg, KeptRow}
use Rattle.node_rules.specs.Data.decisions
use Rattle.node_rules.specs.Data.inputs
use Rattle.node_rules.specs.Data.kinds
use Rattle.node_rules.specs.Data.phases
use Rattle.node_rules.specs.Commit.{commit_point_known}
use Rattle.node_rules.specs.NodeState.{NodeState, TurnDraft, live_id, live_at, work_at, with_work, kept_row_at}
use Rattle.node_rules.specs.Points.{is_ready}
use Rattle.node_rules.specs.Prepare.{act_turn, commit_point_act, commit_point_in}
use Rattle.node_rules.specs.Turn.{BranchStatus, Is_live, turn_of, heard, draft_of, status_of, kept_or_gone, live_or, kind_turn, commit_point_turn}
use Rattle.run_rules.specs.Births.{births_of, born_at}
use Rattle.run_base_laws.specs.BirthLaws.{Began, IsChild, GoesSo}
use Rattle.run_rules.specs.Facts.{node_at, kept_after, facts_after}
use Rattle.run_base_laws.specs.InTurnLaws.{said_in}
use Rattle.run_rules.specs.Lawful.{History, IsLawfulRun, facts_at}
use Rattle.run_branch_laws.specs.PhaseLaws.{PhaseFits}
use Rattle.run_base_laws.specs.RunEvents.{events_of}
use Rattle.run_branch_laws.specs.WalkLaws.{is_below, was_sent}
use Rattle.run_rules.proofs.AtNodeLemmas.{turn_here}
use Rattle.run_base_laws.proofs.BirthRunLemmas.{messages_are_of_neighbors}
use Rattle.run_base_laws.proofs.BirthsStandLemmas.{came_so}
use Rattle.run_base_laws.proofs.EventsStandLemmas.{run_stands, nodes_are_as_events}
use Rattle.run_rules.proofs.ListLemmas.{all_weaker}
use Rattle.run_base_laws.proofs.NodesStandLemmas.{some_or_none}
use Rattle.run_base_laws.proofs.OwnLemmas.{all_found}
use Rattle.run_branch_laws.proofs.PhaseLemmas.{phases_fit}
use Rattle.tree_laws.specs.AskLaws.{way_of}
use Rattle.tree_laws.proofs.AskRunLemmas.{sent_from, collects_as_told}
use Rattle.tree_laws.proofs.PrefixLemmas.{so_far, f_at, e_at, one_on}
use Rattle.tree_laws.proofs.TimeLemmas.{part_lawful, exit_end, born_end}
use Rattle.commit_laws.specs.DeliveryLaws.{CameInTurn}
use Rattle.commit_laws.proofs.CameLemmas.{deliveries_came}
use Rattle.commit_point_laws.specs.PointLaws.{is_point, IsNotLive, PointsAreHeard}
use Rattle.commit_point_laws.proofs.PassLemmas.{points_find_ready}
use Rattle.commit_point_laws.proofs.StayReadyLemmas.{ready_stay}
use Rattle.tree_laws.proofs.StepWeightLemmas.{nowhere_weighs}
use Rattle.commit_point_laws.proofs.WeightLemmas.{Lives, lives_still, walks_find_weights}
use Rattle.tree_laws.proofs.AtTurn.{at_turn}

-- who has left is not live
pub left_not_live : (t : History) (whole : IsLawfulRun t) (b : BranchId) (z : Exit) → exit (events_of t) b ≡ Some z → IsNotLive (facts_at t) b
left_not_live t whole b z left k up = by (live_at k b) refl
  where
    by : (o : Option Live) → live_at k b ≡ o → o ≡ None
    by None is = refl
    by (Some l) is =
        let none : exit (events_of t) l.me ≡ None = all_found (λ (x : Live). exit (events_of t) x.me ≡ None) live_id k.lives b l (nodes_are_as_events t whole b.node k up).0 is in
        let me : l.me ≡ b = item_is live_id k.lives b l is in
        let gone : exit (events_of t) l.me ≡ Some z = subst (λ i. exit (events_of t) i ≡ Some z) (sym me) left in
        absurd (cc (none, gone))

-- ---- the turn

module _ (k : NodeState) (from to : BranchId) where
  -- one that is not live
  known_same : (s : KeptRow) (o : Option Decision) → (commit_point_known k s from o).after ≡ k
  known_same s None = refl
  known_same s (Some (decisions.Commit n)) = refl
  known_same s (Some decisions.Rollback) = refl

  other_same : (o : Option KeptRow) → (commit_point_turn k from to (kept_or_gone o)).after ≡ k
  other_same None = refl
  other_same (Some s) = known_same s s.decision

  stand_live : (l : Live) → live_at k to ≡ Some l → status_of k to ≡ Is_live (record { live = l; work = work_at k l.me })
  unfolding status_of
  stand_live l is = ap (λ o. live_or (with_work k o) (kept_row_at k to)) is

  stand_other : live_at k to ≡ None → status_of k to ≡ kept_or_gone (kept_row_at k to)
  unfolding status_of
  stand_other is = ap (λ o. live_or (with_work k o) (kept_row_at k to)) is

  -- one that is Ready
  act_leaves : (l : Live) (w : Walk) → w ≢ walks.Nowhere → live_at (act_turn k l true (commit_point_act w)).after l.me ≡ None
  act_leaves l walks.Here goes = drop_gone live_id k.lives l.me
  act_leaves l (walks.Down i) goes = drop_gone live_id k.lives l.me
  act_leaves l walks.Nowhere goes = absurd (goes refl)

  leaves : ((l : Live) → live_at k to ≡ Some l → (l.phase ≡ phases.Ready) × (step l ≢ walks.Nowhere)) → live_at (commit_point_turn k from to (status_of k to)).after to ≡ None
  leaves so = by (live_at k to) refl
    where
      by : (o : Option Live) → live_at k to ≡ o → live_at (commit_point_turn k from to (status_of k to)).after to ≡ None
      by None is = subst (λ (s : BranchStatus). live_at (commit_point_turn k from to s).after to ≡ None) (sym (stand_other is)) (subst (λ (j : NodeState). live_at j to ≡ None) (sym (other_same (kept_row_at k to))) is)
      by (Some l) is =
          let me : l.me ≡ to = item_is live_id k.lives to l is in
          let it = so l is in
          let acts : live_at (commit_point_in k l phases.Ready).after to ≡ None = subst (λ b. live_at (act_turn k l true (commit_point_act (step l))).after b ≡ None) me (act_leaves l (step l) it.1) in
          let turns : live_at (commit_point_in k l l.phase).after to ≡ None = subst (λ ph. live_at (commit_point_in k l ph).after to ≡ None) (sym it.0) acts in
          subst (λ (s : BranchStatus). live_at (commit_point_turn k from to s).after to ≡ None) (sym (stand_live l is)) turns

module _ (t : History) (whole : IsLawfulRun t) (m : Msg) (came : CameInTurn t.trace m) (points : is_point m.kind ≡ true) where
  open came use {before as hs, turn as u}
  open m use {to as b}
  open at_turn t whole came.before came.turn came.later came.is use {h, s, f, lawful, part_after as part_z, may, k, p, after}

  lawful_z : IsLawfulRun (so_far t after)
  lawful_z = part_lawful t whole after part_z

  abbrev k0 : NodeState
  k0 = heard k (inputs.Message m)

  abbrev d : TurnDraft
  d = draft_of p k (inputs.Message m)

  up : node_at f b.node ≡ Some k
  up = subst (λ i. node_at f i ≡ Some k) came.here may.1.up

  sent : was_sent is_point (said_in f) m.from m.to ≡ true
  sent = came_so (λ x y kind. is_point kind ≡ true → was_sent is_point (said_in f) x y ≡ true) f (sent_from is_point f.net.packets) k u.node u.input u.took may.1.comes m.from m.to m.kind (record { scn = m.scn; is = came.input }) points

  -- ---- the branch before the turn, where it is live

  module _ (l : Live) (live : live_at k b ≡ Some l) where
    me : l.me ≡ b
    me = item_is live_id k.lives b l live

    mine : live_at k l.me ≡ Some l
    mine = subst (λ i. live_at k i ≡ Some l) (sym me) live

    ready : l.phase ≡ phases.Ready
    ready = elim (points_find_ready s lawful m.from m.to sent) [
      | inl said ↦ ready_stay s lawful b.node k up l mine m.from (subst (λ i. was_sent is_ready (said_in f) i m.from ≡ true) (sym me) said)
      | inr left ↦ absurd (left (subst (λ i. exit (e_at t hs) i ≡ None) me (all_found (λ (x : Live). exit (e_at t hs) x.me ≡ None) live_id k.lives l.me l (nodes_are_as_events s lawful b.node k up).0 mine)))
    ]

    fits : PhaseFits l.parent l.edges phases.Ready
    fits = subst (PhaseFits l.parent l.edges) ready (all_found (λ (x : Live). PhaseFits x.parent x.edges x.phase) live_id k.lives l.me l (phases_fit s lawful b.node k up) mine)

    goes : step l ≢ walks.Nowhere
    goes nowhere = by l.parent refl
      where
        by : (o : Option BranchId) → l.parent ≡ o → ⊥
        by None above = fits.2 above
        by (Some q) above =
            let told : was_sent is_below (said_in f) q l.me ≡ true = collects_as_told s lawful b.node k up l mine true (ap way_of ready) q above in
            walks_find_weights s lawful b.node k up l mine q told (nowhere_weighs l nowhere)

  -- ---- afterwards

  by_kind : (kind : Kind) → m.kind ≡ kind → is_point kind ≡ true → live_at d.after b ≡ None
  by_kind kinds.CommitPoint is points_it =
      subst (λ (x : Kind). live_at (kind_turn p k0 m.from m.to x (status_of k0 m.to)).after b ≡ None) (sym is) (leaves k0 m.from b (λ l live. (ready l live, goes l live)))
  by_kind _ is points_it = absurd cc

  gone_then : live_at d.after b ≡ None
  gone_then = by_kind m.kind refl points

  left : node_at (f_at t after) b.node ≡ kept_after u.cut (Some (turn_of p k (inputs.Message m)))
  left =
      let here : node_at (facts_after t.places t.commands f h) u.node ≡ kept_after u.cut (Some (turn_of p k u.input)) = (turn_here t.places t.commands f (run_stands s lawful).0.even u k may.1.up).0 in
      let there : node_at (facts_after t.places t.commands f h) b.node ≡ kept_after u.cut (Some (turn_of p k u.input))
      = subst (λ i. node_at (facts_after t.places t.commands f h) i ≡ kept_after u.cut (Some (turn_of p k u.input))) came.here here in
      subst (λ x. node_at x b.node ≡ kept_after u.cut (Some (turn_of p k (inputs.Message m)))) (sym (one_on t hs h)) (there ∙ ap (λ i. kept_after u.cut (Some (turn_of p k i))) came.input)

  by_cut : (cut : Bool) (j : NodeState) → kept_after cut (Some (turn_of p k (inputs.Message m))) ≡ Some j → live_at j b ≡ None
  unfolding turn_of
  by_cut true j is = absurd cc
  by_cut false j is = (let it : d.after ≡ j = cc in subst (λ (i : NodeState). live_at i b ≡ None) it gone_then)

  -- it began
  goes_so : (kind : Kind) → m.kind ≡ kind → is_point kind ≡ true → GoesSo (Began (births_of s)) m.from m.to kind → IsChild (Began (births_of s)) m.to m.from
  goes_so kinds.CommitPoint is points_it so = so
  goes_so _ is points_it so = absurd cc

  child : IsChild (Began (births_of s)) m.to m.from
  child = goes_so m.kind refl points (came_so (GoesSo (Began (births_of s))) f (messages_are_of_neighbors s lawful) k u.node u.input u.took may.1.comes m.from m.to m.kind (record { scn = m.scn; is = came.input }))

  born : born_at (births_of (so_far t after)) b ≢ None
  born none =
      let began : Began (births_of (so_far t after)) child.0 = born_end (so_far t after) lawful_z hs (record { rest = h ∷ []; is = refl }) child.0 child.1 in
      let at : born_at (births_of (so_far t after)) b ≡ Some child.0 = subst (λ i. born_at (births_of (so_far t after)) i ≡ Some child.0) child.2 began in
      absurd (cc (at, none))

  not_lives : Lives (so_far t after) lawful_z b → ⊥
  not_lives it =
      let none : live_at it.kept b ≡ None = by_cut u.cut it.kept (sym left ∙ it.up) in
      live_none it none
    where
      live_none : (x : Lives (so_far t after) lawful_z b) → live_at x.kept b ≡ None → ⊥
      live_none x none =
          let nowhere : live_at x.kept x.branch.live.me ≡ None = subst (λ i. live_at x.kept i ≡ None) (sym x.is_me) none in
          let gone = ap (with_work x.kept) nowhere in
          let found = x.found in
          absurd (cc (gone, found))

  pub not_live : IsNotLive (facts_at t) b
  not_live = elim (some_or_none (exit (e_at t after) b)) [
    | inl gone ↦ left_not_live t whole b gone.0 (exit_end t whole after part_z b gone.0 gone.1)
    | inr still ↦ absurd (not_lives (lives_still (so_far t after) lawful_z b born still))
  ]

pub points_are_heard : PointsAreHeard
points_are_heard t whole = all_weaker _ _ (λ x so fate points. not_live t whole x.msg (so fate) points) (facts_at t).net.packets (deliveries_came t whole)
