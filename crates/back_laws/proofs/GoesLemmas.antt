-- A ROLLBACK TO that is not refused, in a turn that is not cut, takes the root of its session back: to the savepoint of its name.
use Rattle.std.proofs.Common.{◌≡◌, ℕ, false, if◌then◌else◌, List, ◌∷◌, ◌++◌, take, Some, None, refl, sym, ap, subst, ◌∙◌}
use Rattle.tran_ids.proofs.BranchLemmas.{same_from_equal}
use Rattle.tran_ids.proofs.ListedLemmas.{item_is}
use Rattle.node_rules.specs.Data.{Live}
use Rattle.node_rules.specs.Data.inputs
use Rattle.node_rules.specs.Data.stmts
use Rattle.node_rules.specs.declared.session.Session.{Session}
use Rattle.node_rules.specs.declared.work.Work.{Work}
use Rattle.node_rules.specs.Client.{back_call, counted}
use Rattle.node_rules.specs.NodeState.{NodeState, Branch, branch_at, live_id, live_at, work_at}
use Rattle.node_rules.specs.Marks.{savepoint_at}
use Rattle.node_rules.specs.Sessions.{session_at}
use Rattle.node_rules.specs.Turn.{draft_of, output_of, turn_of}
use Rattle.node_rules.proofs.Steps.{HasRoot}
use Rattle.run_rules.specs.Branches.{Seen, Trail, seen_at, root_at, is_root_of}
use Rattle.run_rules.specs.Data.{Turn, Happening}
use Rattle.run_rules.specs.Data.happenings
use Rattle.run_rules.specs.Each.{AtEach}
use Rattle.run_rules.specs.Facts.{Facts, node_at, place_at, outcome_at, served}
use Rattle.run_rules.specs.Lawful.{History, IsLawfulRun}
use Rattle.run_rules.specs.Runs.{answered_by, is_refused, goes_back, back_root, back_of, step_of_savepoint}
use Rattle.run_rules.specs.Trail.{with_begun, begun_in_turn, back_in, step_back}
use Rattle.run_base_laws.proofs.RootLemmas.{counted_session}
use Rattle.tree_laws.proofs.PrefixLemmas.{f_at}
use Rattle.tree_laws.proofs.TimeLemmas.{Part, part_of, may_of}
use Rattle.tree_trail_laws.specs.OwnLaws.{TracesRoots}
use Rattle.tree_trail_laws.specs.RunLaws.{TracesWorks}
use Rattle.tree_trail_laws.specs.SeenLaws.{IsSeenRoot}
use Rattle.tree_trail_laws.proofs.CallLemmas.{call_free, seen_root}
use Rattle.tree_trail_laws.proofs.MomentLemmas.{tr_at, by_moment}
use Rattle.tree_trail_laws.proofs.OwnFollowLemmas.{owns_at}
use Rattle.tree_trail_laws.proofs.OwnStepLemmas.{found_work}
use Rattle.tree_trail_laws.proofs.PlanLemmas.{find_more}
use Rattle.tree_trail_laws.proofs.SpecialTurnLemmas.{BackTurn, Not_back, Is_back, back_turn}
use Rattle.tree_trail_laws.proofs.TopSeesLemmas.{names_next}
use Rattle.tree_trail_laws.proofs.TopTurnLemmas.{seen_roots}
use Rattle.back_laws.specs.BackLaws.{RollbacksGoBack}
use Rattle.back_laws.proofs.SavepointLemmas.{parted}
use Rattle.back_laws.proofs.StayLemmas.{tops}

module _ (t : History) (whole : IsLawfulRun t) where
  -- what is told of roots, of runs and of savepoints is what their nodes keep
  pub roots : AtEach (λ places f tr h. TracesRoots places f tr) t
  roots = by_moment t (λ places f tr h. TracesRoots places f tr) (λ hs h rest is. (let part : Part t whole hs = part_of t whole hs h rest is in let now = tops t whole hs part in record {
    tops = now.tops;
    roots = seen_roots t whole hs part now;
    next = names_next t whole hs part now.counts now.ordered;
  }))

  pub works : (hs : List Happening) → Part t whole hs → TracesWorks (f_at t hs) (tr_at t hs)
  works hs part = (owns_at t whole roots hs part).works

  module _ (hs : List Happening) (u : Turn) (rest : List Happening) (is : hs ++ happenings.Turn u ∷ rest ≡ t.trace) (session : ℕ) (name : List ℕ) (came : u.input ≡ inputs.Call session (Some (stmts.RollbackTo name)))
      (uncut : u.cut ≡ false) (done : is_refused (answered_by (outcome_at t.places (f_at t hs) u)) ≡ false) where
    abbrev part : Part t whole hs
    part = part_of t whole hs (happenings.Turn u) rest is

    abbrev f : Facts
    f = f_at t hs

    abbrev tr : Trail
    tr = tr_at t hs

    -- The root of the session goes back to this step.
    pub record Goes : Type 0 where
      pub root : Seen
      pub at : root_at tr u.node session ≡ Some root
      pub step : ℕ
      pub goes : step_back root.me (back_in (with_begun f tr u) u (answered_by (outcome_at t.places f u))) ≡ Some step

    -- a live root with the savepoint goes back to it
    abbrev with_savepoint : (root : Seen) → root_at tr u.node session ≡ Some root → (step : ℕ) → step_of_savepoint name root.savepoints ≡ Some step → Goes
    with_savepoint root at step found = record { root = root; at = at; step = step; goes = goes }
      where
        begun_root : root_at (with_begun f tr u) u.node session ≡ Some root
        begun_root = find_more (is_root_of u.node session) tr.seen (begun_in_turn f tr u) root at

        goes : step_back root.me (back_in (with_begun f tr u) u (answered_by (outcome_at t.places f u))) ≡ Some step
        goes =
            ap (λ c. step_back root.me (if c then None else goes_back (with_begun f tr u) u.node (answered_by (outcome_at t.places f u)) u.input)) uncut
            ∙ (ap (λ i. step_back root.me (goes_back (with_begun f tr u) u.node (answered_by (outcome_at t.places f u)) i)) came
            ∙ (ap (λ q. step_back root.me (if q then None else back_root name (root_at (with_begun f tr u) u.node session))) done
            ∙ (ap (λ o. step_back root.me (back_root name o)) begun_root
            ∙ (ap (λ o. step_back root.me (back_of root.me o)) found ∙ ap (λ q. if q then Some step else None) (same_from_equal root.me root.me refl)))))

    module _ (k : NodeState) (up : node_at f u.node ≡ Some k) (sees : IsSeenRoot tr k (root_at tr u.node session) (session_at k.sessions session).root) where
      -- the root that the node takes back
      pub at_root : (x : Branch) (step : ℕ) → HasRoot (counted k session) session x.live.me → branch_at (counted k session) x.live.me ≡ Some x → savepoint_at x.work.marks name ≡ Some step → (it : Goes) × (it.root.me ≡ x.live.me) × (it.step ≡ step)
      at_root x step has found saved =
          let has_it : HasRoot k session x.live.me = sym (ap (λ (y : Session). y.root) (counted_session k.sessions session session (session_at k.sessions session).root).1) ∙ has in
          let its = seen_root tr k (root_at tr u.node session) (session_at k.sessions session).root x.live.me has_it sees in
          let l : Live = its.3.0 in
          let me : l.me ≡ x.live.me = item_is live_id k.lives x.live.me l its.3.1 in
          let l_live : live_at k l.me ≡ Some l = subst (λ b. live_at k b ≡ Some l) (sym me) its.3.1 in
          let told = works hs part u.node k up l l_live in
          let both : Some told.0 ≡ Some its.0 = sym told.1 ∙ (ap (seen_at tr) me ∙ its.4) in
          let one : told.0 ≡ its.0 = cc in
          let marks : its.0.savepoints ≡ x.work.marks.savepoints
          = ap (λ (s : Seen). s.savepoints) (sym one) ∙ (told.2.savepoints ∙ (ap (λ b. (work_at k b).marks.savepoints) me ∙ ap (λ (w : Work). w.marks.savepoints) (sym (found_work (counted k session) x found)))) in
          (with_savepoint its.0 its.1 step (ap (step_of_savepoint name) marks ∙ saved), its.2, refl {a = step})

      turned : BackTurn k (counted k session) session name (back_call (counted k session) session name) → is_refused (answered_by (Some (output_of (back_call (counted k session) session name)))) ≡ false → Goes
      turned (Not_back refused still) accepted = absurd (cc (refused, accepted))
      turned (Is_back x step has found saved went) accepted = (at_root x step has found saved).0

      answered : is_refused (answered_by (Some (output_of (draft_of (place_at t.places u.node) k u.input)))) ≡ false
      unfolding turn_of
      answered = ap (λ o. is_refused (answered_by (served (place_at t.places u.node) u.input o))) (sym up) ∙ done

      goes : Goes
      goes = turned (back_turn k session name) (subst (λ i. is_refused (answered_by (Some (output_of (draft_of (place_at t.places u.node) k i)))) ≡ false) came answered)

    pub goes_there : Goes
    goes_there =
        let may = may_of t whole hs (happenings.Turn u) rest is in
        let free = call_free f may.0 u.node u.input u.took session (Some (stmts.RollbackTo name)) came may.1.comes in
        goes may.0 may.1.up (seen_roots t whole hs part (tops t whole hs part) u.node may.0 may.1.up session free.0 free.1)

pub rollbacks_go_back : RollbacksGoBack
rollbacks_go_back t whole i u there uncut session name came done =
    let cut_there = parted t.trace i (happenings.Turn u) there in
    let it = goes_there t whole (take i t.trace) u cut_there.0 cut_there.1 session name came uncut done in
    (it.root, it.at, it.step, it.goes)
