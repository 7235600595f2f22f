-- In every lawful run the root of an undisturbed COMMIT is live no more when nothing is in flight, where no branch below it
-- was dropped.
use Rattle.std.proofs.Common.{◌≡◌, ℕ, true, List, [], ◌∷◌, ◌++◌, unwrap_or, Option, Some, None, refl, sym, ap, subst, ◌∙◌}
use Rattle.std.proofs.lemmas.List.{append_assoc}
use Rattle.tran_ids.proofs.ListedLemmas.{item_is}
use Rattle.node_rules.specs.Data.{BranchId, Live, Phase, Input}
use Rattle.node_rules.specs.Data.inputs
use Rattle.node_rules.specs.Data.phases
use Rattle.node_rules.specs.Data.stmts
use Rattle.node_rules.specs.declared.session.PendingCall.TheVariants as pending
use Rattle.node_rules.specs.Client.{root_by, root_at, commit_at, commit_by}
use Rattle.node_rules.specs.NodeState.{NodeState, Branch, TurnDraft, live_id, live_at, work_at, with_work}
use Rattle.node_rules.specs.Prepare.{collecting, with_comment, without_read_keys, first_act}
use Rattle.node_rules.specs.Sessions.{with_call}
use Rattle.node_rules.specs.Turn.{turn_of, draft_of}
use Rattle.run_rules.specs.Births.{Born, births_of, born_id, born_at}
use Rattle.run_base_laws.specs.BirthLaws.{Began, LiveIs, StandsBelow}
use Rattle.run_rules.specs.Data.{Happening}
use Rattle.run_rules.specs.Data.happenings
use Rattle.run_rules.specs.Facts.{place_at, node_at, kept_after, facts_after}
use Rattle.run_rules.specs.Lawful.{History, IsLawfulRun, facts_at}
use Rattle.run_branch_laws.specs.PhaseLaws.{PhaseFits}
use Rattle.run_rules.proofs.AtNodeLemmas.{turn_here}
use Rattle.run_base_laws.proofs.BirthRunLemmas.{births_are_trees, nodes_name_the_born}
use Rattle.run_base_laws.proofs.EventsStandLemmas.{run_stands, ids_name_their_node}
use Rattle.run_base_laws.proofs.OwnLemmas.{all_found}
use Rattle.run_branch_laws.proofs.PhaseLemmas.{phases_fit}
use Rattle.run_base_laws.proofs.RootLemmas.{roots_are_of_sessions}
use Rattle.tree_laws.proofs.PrefixLemmas.{so_far, f_at, one_on}
use Rattle.tree_laws.proofs.TimeLemmas.{Part, part_on, part_of, part_lawful, born_end}
use Rattle.commit_laws.specs.StillLaws.{DroppedNone, UndisturbedRootsLeave}
use Rattle.run_claims.specs.Undisturbed.{Commit, Undisturbed}
use Rattle.commit_laws.proofs.KeepLemmas.{Served}
use Rattle.commit_laws.proofs.ServedLemmas.{ServedAt, HasBorn, served_until, served_end}
use Rattle.commit_laws.proofs.StillLemmas.{undisturbed_collects_end}
use Rattle.commit_laws.proofs.TurnLemmas.{acted, none_named}
use Rattle.tree_laws.proofs.AtPart.{at_part}

-- ---- the turn of the COMMIT

module _ (k : NodeState) (n : ℕ) (comment : List ℕ) (l : Live) (y : Live) where
  abbrev x : Branch
  x = record { live = l; work = work_at k l.me }

  commit_served : l.read_at ≡ None → live_at (commit_by k n comment None (Some x)).after l.me ≡ Some y → Served None y
  commit_served writer live =
      acted None (without_read_keys (record k { sessions = with_call k.sessions n pending.Commit }) l.me) (collecting (with_comment l comment) true) true (record { busy = λ working. absurd cc; has = none_named _ })
      (first_act (collecting (with_comment l comment) true) true) y (subst (λ o. live_at (commit_at k n comment x o).after l.me ≡ Some y) writer live)

-- ---- every run

module _ (t : History) (whole : IsLawfulRun t) (c : Commit t.places t.commands t.trace) (u : Undisturbed t.places t.commands t.trace c) where
  open c use {before as hs, root as b, kept as k}

  abbrev h : Happening
  h = happenings.Turn c.call

  open at_part t hs use {s, f}

  abbrev after : List Happening
  after = hs ++ h ∷ []

  part : Part t whole hs
  part = part_of t whole hs h c.during c.is

  lawful : IsLawfulRun s
  lawful = part_lawful t whole hs part

  lawful_z : IsLawfulRun (so_far t after)
  lawful_z = part_lawful t whole after (part_on t whole hs h c.during c.is)

  me : c.live.me ≡ b
  me = item_is live_id k.lives b c.live c.there

  found : live_at k c.live.me ≡ Some c.live
  found = subst (λ i. live_at k i ≡ Some c.live) (sym me) c.there

  node : c.call.node ≡ b.node
  node = sym (all_found (λ (l : Live). l.me.node ≡ c.call.node) live_id k.lives c.live.me c.live (ids_name_their_node s lawful c.call.node k c.up).lives found) ∙ ap (λ (i : BranchId). i.node) me

  placed : LiveIs (Began (births_of s)) c.live
  placed = all_found (LiveIs (Began (births_of s))) live_id k.lives c.live.me c.live (nodes_name_the_born s lawful c.call.node k c.up).0 found

  no_parent : c.live.parent ≡ None
  no_parent = (roots_are_of_sessions s lawful c.call.node k c.up c.session b c.of).1 c.live c.there

  born_after : HasBorn t whole b None after
  born_after = (placed.born, born_end (so_far t after) lawful_z hs (record { rest = h ∷ []; is = refl }) placed.born placed.began, placed.is_me ∙ me)

  abbrev input : Input
  input = inputs.Call c.session (Some (stmts.Commit c.comment))

  abbrev d : TurnDraft
  d = draft_of (place_at t.places c.call.node) k input

  root_is : root_at k c.session ≡ Some (record { live = c.live; work = work_at k c.live.me })
  root_is = ap (root_by k) c.of ∙ ap (with_work k) c.there

  served_turn : (y : Live) → live_at d.after b ≡ Some y → Served None y
  served_turn y live =
      let one : live_at (commit_by k c.session (unwrap_or c.comment []) None (root_at k c.session)).after b ≡ Some y
      = subst (λ o. live_at (commit_by k c.session (unwrap_or c.comment []) o (root_at k c.session)).after b ≡ Some y) u.goes_on live in
      let two : live_at (commit_by k c.session (unwrap_or c.comment []) None (Some (record { live = c.live; work = work_at k c.live.me }))).after b ≡ Some y
      = subst (λ o. live_at (commit_by k c.session (unwrap_or c.comment []) None o).after b ≡ Some y) root_is one in
      commit_served k c.session (unwrap_or c.comment []) c.live y c.writer
      (subst (λ i. live_at (commit_by k c.session (unwrap_or c.comment []) None (Some (record { live = c.live; work = work_at k c.live.me }))).after i ≡ Some y) (sym me) two)

  left : node_at (f_at t after) b.node ≡ Some d.after
  unfolding turn_of
  left =
      let here : node_at (facts_after t.places t.commands f h) c.call.node ≡ Some d.after
      = (turn_here t.places t.commands f (run_stands s lawful).0.even c.call k c.up).0
      ∙ (ap (λ (i : Input). kept_after c.call.cut (Some (turn_of (place_at t.places c.call.node) k i))) c.asks ∙ ap (λ q. kept_after q (Some (turn_of (place_at t.places c.call.node) k input))) u.whole) in
      let there : node_at (facts_after t.places t.commands f h) b.node ≡ Some d.after = subst (λ i. node_at (facts_after t.places t.commands f h) i ≡ Some d.after) node here in
      subst (λ x. node_at x b.node ≡ Some d.after) (sym (one_on t hs h)) there

  served_after : ServedAt t whole b None (f_at t after)
  served_after j y there live =
      let both : Some d.after ≡ Some j = sym left ∙ there in
      let it : d.after ≡ j = cc in
      served_turn y (subst (λ (i : NodeState). live_at i b ≡ Some y) (sym it) live)

  -- so it is from the turn of its COMMIT on
  pub served_later : (since rest : List Happening) → (after ++ since) ++ rest ≡ t.trace → ServedAt t whole b None (f_at t (after ++ since))
  served_later since rest is = served_until t whole b None after since rest is (born_after, served_after)

  served : ServedAt t whole b None (facts_at t)
  served = served_end t whole b None after c.during (append_assoc hs (h ∷ []) c.during ∙ c.is) (born_after, served_after)

  -- ---- the root at the end

  began : Began (births_of t) placed.born
  began = born_end t whole hs part placed.born placed.began

  module _ (below : DroppedNone t c.root) (j : NodeState) (up : node_at (facts_at t) b.node ≡ Some j) (l : Live) (live : live_at j b ≡ Some l) where
    is_me : l.me ≡ b
    is_me = item_is live_id j.lives b l live

    mine : live_at j l.me ≡ Some l
    mine = subst (λ i. live_at j i ≡ Some l) (sym is_me) live

    its : LiveIs (Began (births_of t)) l
    its = all_found (LiveIs (Began (births_of t))) live_id j.lives l.me l (nodes_name_the_born t whole b.node j up).0 mine

    same_born : its.born ≡ placed.born
    same_born =
        let one : born_at (births_of t) b ≡ Some its.born = subst (λ i. born_at (births_of t) i ≡ Some its.born) (its.is_me ∙ is_me) its.began in
        let two : born_at (births_of t) b ≡ Some placed.born = subst (λ i. born_at (births_of t) i ≡ Some placed.born) (placed.is_me ∙ me) began in
        let both : Some its.born ≡ Some placed.born = sym one ∙ two in
        cc

    parent : placed.born.parent ≡ None
    parent = placed.is_parent ∙ no_parent

    l_parent : l.parent ≡ None
    l_parent = sym its.is_parent ∙ (ap (λ (z : Born). z.parent) same_born ∙ parent)

    l_root : l.root ≡ b
    l_root =
        let stands : StandsBelow (Began (births_of t)) placed.born placed.born.parent = all_found (λ z. StandsBelow (Began (births_of t)) z z.parent) born_id (births_of t) placed.born.me placed.born (births_are_trees t whole) began in
        let top : StandsBelow (Began (births_of t)) placed.born None = subst (StandsBelow (Began (births_of t)) placed.born) parent stands in
        sym its.is_root ∙ (ap (λ (z : Born). z.root) same_born ∙ (top.0 ∙ (placed.is_me ∙ me)))

    by_phase : (phase : Phase) → l.phase ≡ phase → ⊥
    by_phase phases.Working is = (served j l up live).busy is
    by_phase (phases.Collecting down) is = undisturbed_collects_end t whole c u below b.node j up l mine l_root down is
    by_phase phases.Ready is =
        let fits : PhaseFits l.parent l.edges l.phase = all_found (λ (z : Live). PhaseFits z.parent z.edges z.phase) live_id j.lives l.me l (phases_fit t whole b.node j up) mine in
        (subst (PhaseFits l.parent l.edges) is fits).2 l_parent

  none_live : DroppedNone t c.root → (j : NodeState) → node_at (facts_at t) b.node ≡ Some j → (o : Option Live) → live_at j b ≡ o → live_at j b ≡ None
  none_live below j up None is = is
  none_live below j up (Some l) is = absurd (by_phase below j up l is l.phase refl)

pub undisturbed_roots_leave : UndisturbedRootsLeave
undisturbed_roots_leave t whole c u below j up = none_live t whole c u below j up (live_at j c.root) refl
