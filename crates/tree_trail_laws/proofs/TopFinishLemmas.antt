-- A root that ends without a site has a plan without one, where what is told of its tree at its COMMIT is what its nodes kept.
use Rattle.std.proofs.Common.{◌≡◌, ◌≢◌, ℕ, zero, suc, ◌≤◌, Bool, true, is_none, is_some, slice_get, unwrap_or, List, [], ◌∷◌, ◌++◌, map, Option, Some, None, refl, sym, ap, subst, ◌∙◌, append-nil, arith}
use Rattle.std.proofs.lemmas.List.{append_assoc}
use Rattle.tran_ids.proofs.ListedLemmas.{item_is}
use Rattle.dtx_values.specs.Limits.{depth_limit}
use Rattle.session_tree.specs.Live.{children_of as kept_children}
use Rattle.session_tree.specs.Tree.{place_of_greatest, walk_by, step}
use Rattle.session_tree.specs.declared.act.Walk.TheVariants as walks
use Rattle.agreement.specs.Events.{Exit, Dropped, exit}
use Rattle.node_rules.specs.Data.{BranchId, Edge, Live, Vote, Place}
use Rattle.node_rules.specs.Data.votes
use Rattle.node_rules.proofs.Steps.{Answers}
use Rattle.node_rules.specs.Data.phases
use Rattle.node_rules.specs.Data.stmts
use Rattle.node_rules.specs.declared.session.PendingCall.TheVariants as pending
use Rattle.node_rules.specs.Inputs.{IsCall, IsSession}
use Rattle.node_rules.specs.Words.{numbered}
use Rattle.node_rules.specs.NodeState.{NodeState, Branch, live_id, live_at, branch_at, work_at, with_work}
use Rattle.node_rules.specs.Sessions.{session_at}
use Rattle.node_rules.specs.Prepare.{with_prepare_sent, collecting, with_comment, voted, all_answered}
use Rattle.node_rules.proofs.StandLemmas.{live_so}
use Rattle.run_rules.specs.Births.{Born, births_of}
use Rattle.run_base_laws.specs.BirthLaws.{Began, LiveIs}
use Rattle.run_rules.specs.Branches.{Seen, Trail, CommitPlan, no_trail, seen_at, own_at, children_of, children_at, root_at, plan_at, strength_set}
use Rattle.run_key_laws.specs.ChangedLaws.{changes_at, has_changes as are_some}
use Rattle.run_rules.specs.Data.{Turn, Happening}
use Rattle.run_rules.specs.Data.happenings
use Rattle.run_rules.specs.Each.{AtEach}
use Rattle.run_rules.specs.Facts.{first_facts, place_at, node_at, facts_after}
use Rattle.run_base_laws.specs.FreezeLaws.{was_asked}
use Rattle.run_base_laws.specs.InTurnLaws.{said_in}
use Rattle.run_rules.specs.Lawful.{MayHappen, MayTurn, History, IsLawfulRun, facts_at}
use Rattle.run_base_laws.specs.RunEvents.{events_of}
use Rattle.run_rules.specs.Trail.{has_no_site, trail_after, trail_of}
use Rattle.run_rules.specs.Tree as told
use Rattle.run_rules.specs.Tree.{has_changes, strength_of, walks_by, walk_in, last_of, plan}
use Rattle.run_base_laws.proofs.BirthRunLemmas.{nodes_name_the_born}
use Rattle.run_key_laws.proofs.ChangedLemmas.{changes_are_of_live}
use Rattle.run_base_laws.proofs.EventsStandLemmas.{nodes_are_as_events, ids_name_their_node}
use Rattle.run_base_laws.proofs.LawfulLemmas.{turn_of_node}
use Rattle.run_base_laws.proofs.OwnLemmas.{all_found}
use Rattle.run_base_laws.proofs.RestLemmas.{free_waits}
use Rattle.run_base_laws.proofs.RestRunLemmas.{roots_wait}
use Rattle.run_base_laws.proofs.RootLemmas.{roots_are_of_sessions}
use Rattle.tree_laws.proofs.AskLemmas.{voted_step}
use Rattle.tree_laws.proofs.AskRunLemmas.{edges_asked}
use Rattle.tree_laws.proofs.ForestLemmas as trees
use Rattle.tree_laws.proofs.PrefixLemmas.{so_far, f_at}
use Rattle.tree_laws.proofs.SettleRunLemmas.{known}
use Rattle.tree_laws.specs.DecideLaws.{live_in, InTree, Is_root, SeesTree}
use Rattle.tree_laws.specs.RestLaws.{SameTree}
use Rattle.tree_laws.proofs.DecideLemmas.{root_member}
use Rattle.tree_laws.proofs.FindLemmas.{WasFound, commit_came}
use Rattle.tree_laws.proofs.FrozenLemmas.{State, Here, Left, Member, same_step, strength_at, same_strength}
use Rattle.tree_laws.proofs.MemberLemmas.{IsIn}
use Rattle.tree_laws.proofs.SeenLemmas.{Low, step_seen}
use Rattle.tree_laws.proofs.StrengthLemmas.{lives_have_strength}
use Rattle.tree_laws.proofs.TimeLemmas.{Part, part_lawful, may_of, born_end}
use Rattle.tree_laws.proofs.WeighLemmas.{placed_of}
use Rattle.tree_trail_laws.specs.SeenLaws.{TracesTops, TracesOwns, SeesRoots, TracesStrengths}
use Rattle.tree_trail_laws.proofs.CallLemmas.{call_free, seen_root}
use Rattle.tree_trail_laws.proofs.LowerRunLemmas.{lower_at}
use Rattle.tree_trail_laws.proofs.MomentLemmas.{tr_at, trail_join, trail_keeps, at_moment}
use Rattle.tree_trail_laws.proofs.PlanLemmas.{plan_stays, plan_here}
use Rattle.tree_trail_laws.proofs.RootLemmas.{IsLiveIn, live_there}
use Rattle.tree_trail_laws.proofs.SeenLemmas.{planned}
use Rattle.tree_trail_laws.proofs.TopCoveredLemmas.{asked_left}
use Rattle.tree_laws.proofs.TopStepLemmas.{Finishes, At_once, On_answer}
use Rattle.tree_laws.proofs.AtTurn.{at_happening, at_turn}
use Rattle.tree_trail_laws.proofs.FirstLemmas.{some_first}
use Rattle.tree_trail_laws.proofs.ChildRunLemmas.{tells_at}

-- ---- a plan without a site

none_walked : (m : ℕ) (places : List Place) (tr : Trail) (b : BranchId) → told.step places tr b ≡ walks.Nowhere → last_of (walk_in m places tr b) ≡ None
none_walked zero places tr b nowhere = refl
none_walked (suc m) places tr b nowhere = ap (λ w. last_of (walks_by (walk_in m places tr) b (children_at tr b) w)) nowhere

pub no_site_planned : (places : List Place) (tr : Trail) (b : BranchId) → told.step places tr b ≡ walks.Nowhere → (plan places tr b).site ≡ None
unfolding plan told.walk
no_site_planned places tr b nowhere = none_walked depth_limit places tr b nowhere

-- it stays the plan of its root
pub siteless_stays : (o : Option CommitPlan) (p : CommitPlan) → o ≡ Some p → p.site ≡ None → has_no_site o ≡ true
siteless_stays o p is none = ap has_no_site is ∙ ap is_none none

-- what is told of roots, before each happening
abbrev pub Earlier : History → Type 0
Earlier t = AtEach (λ places f tr h. TracesTops f tr × SeesRoots f tr × TracesStrengths places f tr) t

module _ (t : History) (whole : IsLawfulRun t) (owns : AtEach (λ places f tr h. TracesOwns f tr) t) where
  -- ---- a moment, where roots are told

  module _ (hs : List Happening) (h : Happening) (rest : List Happening) (is : hs ++ h ∷ rest ≡ t.trace) (tops : TracesTops (f_at t hs) (tr_at t hs)) (strengths : TracesStrengths t.places (f_at t hs) (tr_at t hs)) where
    open at_happening t whole hs h rest is use {part, lawful}

    -- each live branch is told with its children
    told_children : (n : ℕ) (k : NodeState) → node_at (f_at t hs) n ≡ Some k → (l : Live) → live_at k l.me ≡ Some l → children_at (tr_at t hs) l.me ≡ kept_children l
    told_children n k up l live = by l.parent refl
      where
        by : (o : Option BranchId) → l.parent ≡ o → children_at (tr_at t hs) l.me ≡ kept_children l
        by None top = (let it = tops n k up l live top in ap children_of it.1 ∙ it.2.children)
        by (Some q) above = (let it = lower_at t whole hs part n k up l live (λ none. absurd (cc (above, none))) in ap children_of it.1 ∙ it.2.children)

    -- and whether it has changes
    told_changes : (n : ℕ) (k : NodeState) → node_at (f_at t hs) n ≡ Some k → (l : Live) → live_at k l.me ≡ Some l → has_changes (tr_at t hs) l.me ≡ l.changed
    told_changes n k up l live =
        let own : own_at (tr_at t hs) l.me ≡ changes_at k.owns l.me = at_moment t (λ places f tr h. TracesOwns f tr) owns hs h rest is n k up l live in
        let marked : l.changed ≡ are_some (changes_at k.owns l.me) = (changes_are_of_live (so_far t hs) lawful n k up).marked l.me l live in
        ap (λ cs. is_some (slice_get cs 0)) own ∙ (some_first (changes_at k.owns l.me) ∙ sym marked)

    -- and its strength
    pub told_strength : (n : ℕ) (k : NodeState) → node_at (f_at t hs) n ≡ Some k → (l : Live) → live_at k l.me ≡ Some l → strength_of t.places (tr_at t hs) l.me ≡ l.strength
    told_strength n k up l live = by l.parent refl
      where
        by : (o : Option BranchId) → l.parent ≡ o → strength_of t.places (tr_at t hs) l.me ≡ l.strength
        by None top = strengths n k up l live top
        by (Some q) above =
            let it = (tells_at t whole hs part).lower n k up l live (λ none. absurd (cc (above, none))) in
            ap (λ o. unwrap_or (strength_set o) (place_at t.places l.me.node).strength) it.1 ∙ it.5

    pub tells_tree : (r : BranchId) → SeesTree t.places (f_at t hs) (tr_at t hs) r
    tells_tree r = record { children = children; changed = changed; strength = strength }
      where
        strength : (c : BranchId) (l : Live) → InTree (f_at t hs) r c → live_in (f_at t hs) c ≡ Some l → strength_of t.places (tr_at t hs) c ≡ l.strength
        strength c l inside live =
            let at : IsLiveIn (f_at t hs) c l = live_there (f_at t hs) c l live in
            let me : l.me ≡ c = item_is live_id at.kept.lives c l at.found in
            subst (λ d. strength_of t.places (tr_at t hs) d ≡ l.strength) me (told_strength c.node at.kept at.up l (subst (λ d. live_at at.kept d ≡ Some l) (sym me) at.found))

        children : (c : BranchId) (l : Live) → InTree (f_at t hs) r c → live_in (f_at t hs) c ≡ Some l → children_at (tr_at t hs) c ≡ kept_children l
        children c l inside live =
            let at : IsLiveIn (f_at t hs) c l = live_there (f_at t hs) c l live in
            let me : l.me ≡ c = item_is live_id at.kept.lives c l at.found in
            subst (λ d. children_at (tr_at t hs) d ≡ kept_children l) me (told_children c.node at.kept at.up l (subst (λ d. live_at at.kept d ≡ Some l) (sym me) at.found))

        changed : (c : BranchId) (l : Live) → InTree (f_at t hs) r c → live_in (f_at t hs) c ≡ Some l → has_changes (tr_at t hs) c ≡ l.changed
        changed c l inside live =
            let at : IsLiveIn (f_at t hs) c l = live_there (f_at t hs) c l live in
            let me : l.me ≡ c = item_is live_id at.kept.lives c l at.found in
            subst (λ d. has_changes (tr_at t hs) d ≡ l.changed) me (told_changes c.node at.kept at.up l (subst (λ d. live_at at.kept d ≡ Some l) (sym me) at.found))

    -- ---- its COMMIT comes

    module _ (u : Turn) (turn : h ≡ happenings.Turn u) (sees : SeesRoots (f_at t hs) (tr_at t hs)) (k : NodeState) (up : node_at (f_at t hs) u.node ≡ Some k) (n : ℕ) (given : Option (List ℕ)) (call : IsCall u.input n (stmts.Commit given))
        (code : (session_at k.sessions n).code ≡ None) (r : BranchId) (has : (session_at k.sessions n).root ≡ Some r) where
      may : MayHappen t.places t.commands (f_at t hs) (happenings.Turn u)
      may = subst (MayHappen t.places t.commands (f_at t hs)) turn (may_of t whole hs h rest is)

      may_k : MayTurn t.places (f_at t hs) u k
      may_k = turn_of_node t.places (f_at t hs) u k t.commands may up

      free : IsSession n × ((session_at k.sessions n).call ≡ pending.NoCall)
      free = call_free (f_at t hs) k u.node u.input u.took n (Some (stmts.Commit given)) call may_k.comes

      top : (s : Seen) × (root_at (tr_at t hs) u.node n ≡ Some s) × (s.me ≡ r) × ((l : Live) × (live_at k r ≡ Some l)) × (seen_at (tr_at t hs) r ≡ Some s)
      top = seen_root (tr_at t hs) k (root_at (tr_at t hs) u.node n) (session_at k.sessions n).root r has (sees u.node k up n free.0 free.1)

      unplanned : (l : Live) → live_at k r ≡ Some l → l.parent ≡ None → plan_at (tr_at t hs) top.0.me ≡ None
      unplanned l found parent =
          let me : l.me ≡ r = item_is live_id k.lives r l found in
          let live : live_at k l.me ≡ Some l = subst (λ c. live_at k c ≡ Some l) (sym me) found in
          let its = roots_wait (so_far t hs) lawful u.node k up (record { live = l; work = work_at k l.me }) (ap (with_work k) live) parent in
          let session : l.me.session ≡ n = same_session l.me n its.root (has ∙ ap Some (sym me)) in
          let working : l.phase ≡ phases.Working = (free_waits (session_at k.sessions l.me.session).call l.phase (work_at k l.me).going its.waits (subst (λ i. (session_at k.sessions i).call ≡ pending.NoCall) (sym session) free.1)).0 in
          subst (λ c. plan_at (tr_at t hs) c ≡ None) (me ∙ sym top.2) ((tops u.node k up l live parent).3 working)
        where
          same_session : (b : BranchId) (m : ℕ) → (session_at k.sessions b.session).root ≡ Some b → (session_at k.sessions m).root ≡ Some b → b.session ≡ m
          same_session b m own root = (roots_are_of_sessions (so_far t hs) lawful u.node k up m b root).0

      -- so the plan is made then
      pub planned_then : (l : Live) → live_at k r ≡ Some l → l.parent ≡ None → l.read_at ≡ None → plan_at (trail_after t.places (f_at t hs) (tr_at t hs) (happenings.Turn u)) r ≡ Some (plan t.places (tr_at t hs) r)
      planned_then l found parent writer =
          let me : l.me ≡ r = item_is live_id k.lives r l found in
          let it = tops u.node k up l (subst (λ c. live_at k c ≡ Some l) (sym me) found) parent in
          let both : Some top.0 ≡ Some it.0 = sym top.4 ∙ subst (λ c. seen_at (tr_at t hs) c ≡ Some it.0) me it.1 in
          let one : top.0 ≡ it.0 = cc in
          subst (λ c. plan_at (trail_after t.places (f_at t hs) (tr_at t hs) (happenings.Turn u)) c ≡ Some (plan t.places (tr_at t hs) c)) top.2
          (plan_here t.places (f_at t hs) (tr_at t hs) u k up n given call code top.0 top.1 (ap (λ (s : Seen). s.read_at) one ∙ (it.2.read_at ∙ writer)) (unplanned l found parent))

  -- ---- a root that ends

  module _ (hs : List Happening) (u : Turn) (rest : List Happening) (is : hs ++ happenings.Turn u ∷ rest ≡ t.trace) (tops : TracesTops (f_at t hs) (tr_at t hs)) (sees : SeesRoots (f_at t hs) (tr_at t hs)) (strengths : TracesStrengths t.places (f_at t hs) (tr_at t hs)) (earlier : Earlier (so_far t hs)) where
    open at_turn t whole hs u rest is use {s as s0, lawful as lawful0, may as may0, k}

    abbrev pl : Trail
    pl = planned t.places (f_at t hs) (tr_at t hs) u

    -- the plans of the turn are those that stand after it
    pub same_plans : (b : BranchId) → plan_at pl b ≡ plan_at (trail_after t.places (f_at t hs) (tr_at t hs) (happenings.Turn u)) b
    unfolding trail_after
    same_plans b = refl

    module _ (z : Live) (z_live : live_at k z.me ≡ Some z) (top : z.parent ≡ None) where
      z_node : z.me.node ≡ u.node
      z_node = all_found (λ (l : Live). l.me.node ≡ u.node) live_id k.lives z.me z (ids_name_their_node s0 lawful0 u.node k may0.1.up).lives z_live

      found_z : branch_at k z.me ≡ Some (record { live = z; work = work_at k z.me })
      found_z = ap (with_work k) z_live

      strong : strength_of t.places (tr_at t hs) z.me ≡ z.strength
      strong = strengths u.node k may0.1.up z z_live top

      -- at once
      at_once : (n : ℕ) (given : Option (List ℕ)) → z.read_at ≡ None → IsCall u.input n (stmts.Commit given) → (session_at k.sessions n).root ≡ Some z.me → (session_at k.sessions n).code ≡ None → z.edges ≡ []
          → step (collecting (with_comment z (unwrap_or given [])) true) ≡ walks.Nowhere → has_no_site (plan_at pl z.me) ≡ true
      unfolding step told.step
      at_once n given writer call has code none at_end =
          let kids : children_at (tr_at t hs) z.me ≡ [] = told_children hs (happenings.Turn u) rest is tops strengths u.node k may0.1.up z z_live ∙ ap (map (λ (e : Edge). e.peer)) none in
          let changes : has_changes (tr_at t hs) z.me ≡ z.changed = told_changes hs (happenings.Turn u) rest is tops strengths u.node k may0.1.up z z_live in
          let kept : walk_by z.changed z.strength (place_of_greatest 1 [] None) ≡ walks.Nowhere
          = subst (λ es. walk_by z.changed z.strength (place_of_greatest 1 (map (λ (e : Edge). e.weight) (map with_prepare_sent es)) None) ≡ walks.Nowhere) none at_end in
          let nowhere : told.step t.places (tr_at t hs) z.me ≡ walks.Nowhere
          = ap (λ q. walk_by q (strength_of t.places (tr_at t hs) z.me) (place_of_greatest 1 (map (told.weight t.places (tr_at t hs)) (children_at (tr_at t hs) z.me)) None)) changes
          ∙ (ap (λ s. walk_by z.changed s (place_of_greatest 1 (map (told.weight t.places (tr_at t hs)) (children_at (tr_at t hs) z.me)) None)) strong
          ∙ (ap (λ cs. walk_by z.changed z.strength (place_of_greatest 1 (map (told.weight t.places (tr_at t hs)) cs) None)) kids ∙ kept)) in
          siteless_stays (plan_at pl z.me) (plan t.places (tr_at t hs) z.me) (same_plans z.me ∙ planned_then hs (happenings.Turn u) rest is tops strengths u refl sees k may0.1.up n given call code z.me has z z_live top writer)
          (no_site_planned t.places (tr_at t hs) z.me nowhere)

      -- on an answer
      module _ (from : BranchId) (v : Vote) (sb : Bool) (answers : Answers u.input z from v sb) (other : v ≢ votes.Abort) (all : all_answered (voted z from v) ≡ true) (at_end : step (voted z from v) ≡ walks.Nowhere) where
        busy : z.phase ≢ phases.Working
        busy working = (let collecting_it = answers.collecting in absurd (cc (collecting_it, working)))

        its : LiveIs (Began (births_of s0)) z
        its = all_found (LiveIs (Began (births_of s0))) live_id k.lives z.me z (nodes_name_the_born s0 lawful0 u.node k may0.1.up).0 z_live

        born_top : (x : Born) × Began (births_of s0) x × (x.me ≡ z.me) × (x.parent ≡ None) × (x.root ≡ z.me)
        born_top =
            let stands = trees.stands_so (births_of s0) (said_in (facts_at s0)) (known s0 lawful0) its.born None its.began (its.is_parent ∙ top) in
            (its.born, its.began, its.is_me, its.is_parent ∙ top, stands.0 ∙ its.is_me)

        lives_on : exit (events_of s0) z.me ≡ None
        lives_on = all_found (λ (l : Live). exit (events_of s0) l.me ≡ None) live_id k.lives z.me z (nodes_are_as_events s0 lawful0 u.node k may0.1.up).0 z_live

        good : (x : Exit) → exit (events_of s0) z.me ≡ Some x → x ≢ Dropped
        good x left = (let none = lives_on in absurd (cc (none, left)))

        found : WasFound s0 lawful0 z.me hs
        found = commit_came s0 lawful0 z.me (born_top.0, born_top.1, born_top.2, born_top.3) good k z (subst (λ n. node_at (f_at t hs) n ≡ Some k) (sym z_node) may0.1.up) z_live busy

        abbrev x0 : Branch
        x0 = found.commit.branch

        abbrev hs0 : List Happening
        hs0 = found.before

        abbrev u0 : Turn
        u0 = found.turn

        abbrev part0 : Part s0 lawful0 hs0
        part0 = record { rest = happenings.Turn u0 ∷ found.later; is = found.is }

        is0 : hs0 ++ happenings.Turn u0 ∷ (found.later ++ happenings.Turn u ∷ rest) ≡ t.trace
        is0 = sym (append_assoc hs0 (happenings.Turn u0 ∷ found.later) (happenings.Turn u ∷ rest)) ∙ (ap (λ xs. xs ++ happenings.Turn u ∷ rest) found.is ∙ is)

        -- at the end it is as it was at its COMMIT
        same_z : State s0 lawful0 x0 hs → SameTree x0 (record { live = z; work = work_at k z.me })
        same_z (Left w left kids ends told_so) = absurd (let gone : exit (events_of s0) z.me ≡ Some w = subst (λ b. exit (events_of s0) b ≡ Some w) found.commit.is_me left in let none = lives_on in cc (gone, none))
        same_z (Here j y up_y found_y me_y same_y) =
            let at_z : node_at (f_at t hs) u.node ≡ Some j = subst (λ n. node_at (f_at t hs) n ≡ Some j) (ap (λ (b : BranchId). b.node) found.commit.is_me ∙ z_node) up_y in
            let both : Some k ≡ Some j = sym may0.1.up ∙ at_z in
            let it : k ≡ j = cc in
            let me : y.live.me ≡ z.me = me_y ∙ found.commit.is_me in
            let two : Some y ≡ Some (record { live = z; work = work_at k z.me }) = sym (subst (λ c. branch_at k c ≡ Some y) me (subst (λ i. branch_at i y.live.me ≡ Some y) (sym it) found_y)) ∙ found_z in
            let one : y ≡ record { live = z; work = work_at k z.me } = cc in
            subst (SameTree x0) one same_y

        ends : State s0 lawful0 x0 hs → (i : ℕ) (c : BranchId) → numbered (kept_children x0.live) i ≡ Some c → was_asked (said_in (facts_at s0)) x0.live.me c ≡ true
        ends state i c at =
            subst (λ b. was_asked (said_in (facts_at s0)) b c ≡ true) (sym found.commit.is_me)
            ((edges_asked s0 lawful0 u.node k may0.1.up z z_live busy).0 i c (subst (λ bs. numbered bs i ≡ Some c) (sym (same_z state).peers) at))

        member : Member s0 lawful0 hs0 part0 z.me x0
        member = root_member s0 lawful0 z.me found good ends born_top

        covered : (q c : BranchId) → was_asked (said_in (facts_at s0)) q c ≡ true → IsIn (births_of s0) z.me c → (x : Exit) × (exit (events_of s0) c ≡ Some x) × (x ≢ Dropped)
        covered = asked_left s0 lawful0 u k may0.1 z z_live from v sb answers other all at_end born_top

        tops0 : TracesTops (f_at t hs0) (tr_at t hs0)
        tops0 = (at_moment s0 (λ places f tr h. TracesTops f tr × SeesRoots f tr × TracesStrengths places f tr) earlier hs0 (happenings.Turn u0) found.later found.is).0

        sees0 : SeesRoots (f_at t hs0) (tr_at t hs0)
        sees0 = (at_moment s0 (λ places f tr h. TracesTops f tr × SeesRoots f tr × TracesStrengths places f tr) earlier hs0 (happenings.Turn u0) found.later found.is).1

        strengths0 : TracesStrengths t.places (f_at t hs0) (tr_at t hs0)
        strengths0 = (at_moment s0 (λ places f tr h. TracesTops f tr × SeesRoots f tr × TracesStrengths places f tr) earlier hs0 (happenings.Turn u0) found.later found.is).2

        first_depth : x0.live.depth ≡ 1
        first_depth =
            let placed : LiveIs (Began (births_of (so_far s0 hs0))) x0.live = placed_of (so_far s0 hs0) (part_lawful s0 lawful0 hs0 part0) x0.live.me.node member.here.kept member.here.up x0 member.here.found in
            let one : placed.born ≡ born_top.0 = trees.same_born (births_of s0) (said_in (facts_at s0)) (known s0 lawful0) placed.born born_top.0 (born_end s0 lawful0 hs0 part0 placed.born placed.began) born_top.1 (placed.is_me ∙ (found.commit.is_me ∙ sym born_top.2)) in
            let stands = trees.stands_so (births_of s0) (said_in (facts_at s0)) (known s0 lawful0) born_top.0 None born_top.1 born_top.3 in
            sym placed.is_depth ∙ (ap (λ (y : Born). y.depth) one ∙ stands.1)

        low : Low s0 lawful0 hs0 part0 z.me covered z.me
        low = record { branch = x0; is_me = found.commit.is_me; member = member; low = subst (λ m. m ≤ depth_limit) (sym first_depth) (let one : 1 ≤ 8 = omega arith in one) }

        same_now : SameTree x0 (record { live = z; work = work_at k z.me })
        same_now = same_z (member.state hs (happenings.Turn u0 ∷ found.later, found.is) (record { rest = []; is = append-nil hs }))

        strong_x : z.strength ≡ x0.live.strength
        strong_x =
            same_strength s0 lawful0 x0 (record { live = z; work = work_at k z.me }) (sym found.commit.is_me) (strength_at s0 lawful0 hs0 part0 x0 member.here)
            (lives_have_strength s0 lawful0 u.node k may0.1.up (record { live = z; work = work_at k z.me }) found_z)

        nowhere : told.step t.places (tr_at t hs0) z.me ≡ walks.Nowhere
        nowhere =
            subst (λ b. told.step t.places (tr_at t hs0) b ≡ walks.Nowhere) found.commit.is_me
            (step_seen s0 lawful0 hs0 part0 z.me covered (tr_at t hs0) (tells_tree hs0 (happenings.Turn u0) (found.later ++ happenings.Turn u ∷ rest) is0 tops0 strengths0 z.me) low x0 member (subst (InTree (f_at t hs0) z.me) (sym found.commit.is_me) Is_root)
            ∙ (sym (same_step x0.live z same_now.changed strong_x same_now.weights) ∙ (sym (voted_step z from v) ∙ at_end)))

        up0 : node_at (f_at t hs0) u0.node ≡ Some found.commit.kept
        up0 = subst (λ n. node_at (f_at t hs0) n ≡ Some found.commit.kept) (sym found.commit.node) found.commit.up

        x_live : live_at found.commit.kept z.me ≡ Some x0.live
        x_live = subst (λ c. live_at found.commit.kept c ≡ Some x0.live) found.commit.is_me (live_so found.commit.kept x0.live.me x0 found.commit.found)

        x_top : x0.live.parent ≡ None
        x_top = (roots_are_of_sessions (so_far s0 hs0) (part_lawful s0 lawful0 hs0 part0) u0.node found.commit.kept up0 found.commit.session z.me found.commit.root).1 x0.live x_live

        planned_first : plan_at (trail_after t.places (f_at t hs0) (tr_at t hs0) (happenings.Turn u0)) z.me ≡ Some (plan t.places (tr_at t hs0) z.me)
        planned_first =
            planned_then hs0 (happenings.Turn u0) (found.later ++ happenings.Turn u ∷ rest) is0 tops0 strengths0 u0 refl sees0 found.commit.kept up0 found.commit.session found.commit.given found.commit.call found.commit.code z.me found.commit.root x0.live x_live x_top found.commit.writes

        planned_end : plan_at (tr_at t hs) z.me ≡ Some (plan t.places (tr_at t hs0) z.me)
        unfolding trail_of
        planned_end =
            subst (λ xs. plan_at (tr_at t xs) z.me ≡ Some (plan t.places (tr_at t hs0) z.me)) found.is
            (subst (λ tr. plan_at tr z.me ≡ Some (plan t.places (tr_at t hs0) z.me)) (sym (trail_join t.places t.commands (first_facts t.places) no_trail hs0 (happenings.Turn u0 ∷ found.later)))
            (trail_keeps t.places t.commands (λ tr. plan_at tr z.me ≡ Some (plan t.places (tr_at t hs0) z.me)) (λ f tr h now. plan_stays t.places f tr h z.me (plan t.places (tr_at t hs0) z.me) now)
            (facts_after t.places t.commands (f_at t hs0) (happenings.Turn u0)) (trail_after t.places (f_at t hs0) (tr_at t hs0) (happenings.Turn u0)) found.later planned_first))

        on_answer : has_no_site (plan_at pl z.me) ≡ true
        on_answer =
            siteless_stays (plan_at pl z.me) (plan t.places (tr_at t hs0) z.me)
            (same_plans z.me ∙ plan_stays t.places (f_at t hs) (tr_at t hs) (happenings.Turn u) z.me (plan t.places (tr_at t hs0) z.me) planned_end) (no_site_planned t.places (tr_at t hs0) z.me nowhere)

      pub ends_siteless_planned : ((n : ℕ) (given : Option (List ℕ)) → IsCall u.input n (stmts.Commit given) → z.read_at ≡ None) → Finishes u.input z.me z k.sessions → has_no_site (plan_at pl z.me) ≡ true
      ends_siteless_planned writes (At_once n given call has code none at_end) = at_once n given (writes n given call) call has code none at_end
      ends_siteless_planned writes (On_answer from v sb answers other all at_end) = on_answer from v sb answers other all at_end
