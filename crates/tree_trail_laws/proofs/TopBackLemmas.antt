-- A root that is told to be live is live at its node after a turn, unless the turn is cut, where a root that ends without a site has a plan without one.
use Rattle.std.proofs.Common.{◌≡◌, ◌≢◌, ℕ, ◌==◌, ◌||◌, ◌&&◌, ◌⊎◌, not, Bool, true, false, if◌then◌else◌, is_none, List, [], ◌∷◌, ◌++◌, map, Option, Some, None, inl, inr, refl, sym, ap, subst, ◌∙◌, is_some}
use Rattle.std.specs.List.{AllByRecursion, list_any, list_all}
use Rattle.std.proofs.lemmas.Bool.{and_from, or_left, or_right, cases_eq, eq-eqb, not-true}
use Rattle.tran_ids.proofs.BranchLemmas.{same_from_equal}
use Rattle.tran_ids.proofs.ListedLemmas.{item_is}
use Rattle.agreement.specs.Events.{Exit, Quiet, Dropped}
use Rattle.session_tree.specs.Live.{is_branch, children_of}
use Rattle.node_rules.specs.Data.{BranchId, Edge, Kind, Live, Msg, Vote, Input}
use Rattle.node_rules.specs.Data.kinds
use Rattle.node_rules.specs.Data.phases
use Rattle.node_rules.specs.Data.votes
use Rattle.node_rules.specs.Words.{same}
use Rattle.node_rules.specs.NodeState.{NodeState, live_id, live_at, Branch, work_at, with_work}
use Rattle.node_rules.specs.Client.{new_root, commit_call}
use Rattle.node_rules.specs.Prepare.{is_awaited, voted}
use Rattle.node_rules.specs.Turn.{turn_of, heard, draft_of, stamped}
use Rattle.node_rules.proofs.Steps.{Answers, vote_kind, By_reading}
use Rattle.node_rules.proofs.StepLemmas.{branch_found}
use Rattle.node_rules.proofs.HeardLemmas.{sessions_heard}
use Rattle.run_rules.specs.Births.{births_of}
use Rattle.run_rules.specs.Branches.{Seen, Trail, is_among, all_voted, is_live, is_live_at, is_root_of, seen_at, plan_at}
use Rattle.run_rules.specs.Data.{Turn, Happening}
use Rattle.run_rules.specs.Data.happenings
use Rattle.run_rules.specs.Facts.{Facts, node_at, outcome_at, kept_after, facts_after}
use Rattle.run_rules.specs.Lawful.{MayHappen, IsOwed, History, IsLawfulRun}
use Rattle.run_base_laws.specs.RunEvents.{events_of}
use Rattle.run_rules.specs.Runs.{answered_by, is_refused}
use Rattle.run_rules.specs.Trail.{is_vote, is_abort, is_first_vote, begins_collect, begun_in_turn, children_after, voted_after, input_drops, kind_drops, recorded_exit, is_quiet, has_no_site, ends_siteless, whole_exit, exit_by, exit_after, with_turn, trail_after}
use Rattle.run_rules.proofs.AtNodeLemmas.{turn_elsewhere, turn_here}
use Rattle.run_base_laws.proofs.BirthRunLemmas.{run_births}
use Rattle.run_base_laws.proofs.EventsStandLemmas.{run_stands}
use Rattle.run_base_laws.proofs.LawfulLemmas.{serves}
use Rattle.run_rules.proofs.ListLemmas.{all_weaker, all_append, all_map}
use Rattle.run_base_laws.proofs.NodeLemmas.{kept_alone}
use Rattle.run_base_laws.proofs.RestLemmas.{Before}
use Rattle.run_base_laws.proofs.RestRunLemmas.{run_roots, before_so, roots_wait}
use Rattle.run_base_laws.proofs.RootLemmas.{SessionsFit, sessions_keep}
use Rattle.run_base_laws.proofs.TurnEventLemmas.{all_both, number_is}
use Rattle.tree_laws.specs.AskLaws.{way_of}
use Rattle.tree_laws.proofs.AskRunLemmas.{live_told}
use Rattle.tree_laws.proofs.AskStepLemmas.{voted_peers}
use Rattle.tree_laws.proofs.PrefixLemmas.{f_at}
use Rattle.tree_laws.proofs.TimeLemmas.{may_of}
use Rattle.tree_trail_laws.specs.LowerLaws.{AreVoted, IsTracedLive}
use Rattle.tree_trail_laws.specs.SeenLaws.{TracesTops, SeesRoots}
use Rattle.tree_trail_laws.proofs.ChildRunLemmas.{tells_at}
use Rattle.tree_trail_laws.proofs.ChildStepLemmas.{stamped_calls}
use Rattle.tree_trail_laws.proofs.ChildTurnLemmas as kids
use Rattle.tree_trail_laws.proofs.HearLemmas.{first_among, one_voted}
use Rattle.tree_trail_laws.proofs.LowerRunLemmas.{lower_at}
use Rattle.tree_trail_laws.proofs.MomentLemmas.{tr_at}
use Rattle.tree_trail_laws.proofs.PlanLemmas.{accepted}
use Rattle.tree_trail_laws.proofs.SeenLemmas.{begun, planned, brings, turned}
use Rattle.tree_trail_laws.proofs.TopBirthLemmas.{IsBorn, Counts, TurnBegins, None_begins, Root_begins, Child_begins, view, none_cut, not_live, root_unborn}
use Rattle.tree_trail_laws.proofs.TopListLemmas.{Alone}
use Rattle.tree_trail_laws.proofs.TopFreshLemmas.{Fresh, fresh_so}
use Rattle.tree_trail_laws.proofs.TopNodeLemmas.{RootGoes}
use Rattle.tree_laws.proofs.TopStepLemmas.{Finishes, At_once, On_answer, Why, By_record, By_quiet, By_finish, By_abort, By_rollback, By_parent, By_ask, By_call, By_reading, By_give_up, why_on}
use Rattle.tree_laws.proofs.AtTurn.{at_turn}
use Rattle.tree_trail_laws.proofs.AtTrail.{at_trail}
use Rattle.tree_trail_laws.proofs.HeardNodeLemmas.{heard_live, heard_fits}
use Rattle.node_rules.specs.Inputs.{IsCall}
use Rattle.node_rules.specs.Data.stmts
use Rattle.node_rules.specs.Sessions.{session_at}
use Rattle.tree_trail_laws.proofs.TopCallLemmas.{commit_kept}
use Rattle.node_rules.specs.Data.inputs

-- a branch is live at its node, or the node has just been cut off
abbrev pub IsBack : Facts → BranchId → Type 0
IsBack f b = ((k : NodeState) × (l : Live) × (node_at f b.node ≡ Some k) × (live_at k b ≡ Some l)) ⊎ ((f.node_to_stop ≡ Some b.node) × (node_at f b.node ≡ None))

-- so is each root that is told to be live
abbrev pub Back : Facts → Seen → Type 0
Back f s = s.exit ≡ None → s.parent ≡ None → IsBack f s.me

-- all have voted of whom none is awaited
none_out : (vs : List BranchId) (es : List Edge) → AreVoted vs es → list_any (λ e. is_awaited e.vote) es ≡ false → list_all (λ c. is_among c vs) (map (λ (e : Edge). e.peer) es) ≡ true
none_out vs [] all none = refl
none_out vs (e ∷ es) all none = by (is_awaited e.vote) refl none (none_out vs es all.1)
  where
    by : (q : Bool) → is_awaited e.vote ≡ q → (q || list_any (λ (x : Edge). is_awaited x.vote) es) ≡ false → (list_any (λ (x : Edge). is_awaited x.vote) es ≡ false → list_all (λ c. is_among c vs) (map (λ (x : Edge). x.peer) es) ≡ true) → (is_among e.peer vs && list_all (λ c. is_among c vs) (map (λ (x : Edge). x.peer) es)) ≡ true
    by true waits none later = absurd cc
    by false heard none later = and_from (is_among e.peer vs) (list_all (λ c. is_among c vs) (map (λ (x : Edge). x.peer) es)) (all.0 ∙ ap not heard) (later none)

vote_is : (v : Vote) (kind : Kind) → vote_kind v ≡ Some kind → (is_vote kind ≡ true) × (is_awaited v ≡ false)
vote_is votes.Prepared kind is = (let it : Some kinds.Prepared ≡ Some kind = is in let here : kinds.Prepared ≡ kind = cc in (ap is_vote (sym here), refl))
vote_is votes.ReadOnly kind is = (let it : Some kinds.ReadOnly ≡ Some kind = is in let here : kinds.ReadOnly ≡ kind = cc in (ap is_vote (sym here), refl))
vote_is votes.Ready kind is = (let it : Some kinds.Ready ≡ Some kind = is in let here : kinds.Ready ≡ kind = cc in (ap is_vote (sym here), refl))
vote_is votes.Abort kind is = (let it : Some kinds.Abort ≡ Some kind = is in let here : kinds.Abort ≡ kind = cc in (ap is_vote (sym here), refl))
vote_is _ kind is = absurd cc

abort_is : (kind : Kind) → vote_kind votes.Abort ≡ Some kind → is_abort kind ≡ true
abort_is kind is = (let it : Some kinds.Abort ≡ Some kind = is in let here : kinds.Abort ≡ kind = cc in ap is_abort (sym here))

module _ (t : History) (whole : IsLawfulRun t) (hs : List Happening) (u : Turn) (rest : List Happening) (is : hs ++ happenings.Turn u ∷ rest ≡ t.trace)
    (tops : TracesTops (f_at t hs) (tr_at t hs)) (sees : SeesRoots (f_at t hs) (tr_at t hs)) (counts : Counts t whole (f_at t hs) (tr_at t hs)) (born : AllByRecursion (λ s. IsBorn t whole hs s.me) (tr_at t hs).seen)
    (alone : Alone (tr_at t hs).seen) (goes : (n : ℕ) (k : NodeState) → node_at (f_at t hs) n ≡ Some k → RootGoes k.sessions k.lives) where
  open at_turn t whole hs u rest is use {part as part0, s as s0, lawful as lawful0, f as f0, g as f1, k, p, d}
  open at_trail t hs u use {tr as tr0, tr_on as tr1}

  abbrev pub may : MayHappen t.places t.commands f0 (happenings.Turn u)
  may = may_of t whole hs (happenings.Turn u) rest is

  abbrev pl : Trail
  pl = planned t.places f0 tr0 u

  -- a root that ends without a site has a plan without one
  abbrev pub Siteless : Type 0
  Siteless = u.cut ≡ false → (z : Live) → live_at k z.me ≡ Some z → z.parent ≡ None
      → ((n : ℕ) (given : Option (List ℕ)) → IsCall u.input n (stmts.Commit given) → z.read_at ≡ None) → Finishes u.input z.me z k.sessions → has_no_site (plan_at pl z.me) ≡ true

  fit : SessionsFit k
  fit = kept_alone SessionsFit sessions_keep s0 lawful0 u.node k may.1.up

  before : Before u.input k
  before = before_so t.places t.commands t.of_a_script.each f0 (events_of s0) (births_of s0) (run_births s0 lawful0) (run_roots s0 lawful0) u k may.1

  after_is : u.cut ≡ false → node_at f1 u.node ≡ Some d.after
  unfolding turn_of
  after_is cut = (turn_here t.places t.commands f0 (run_stands s0 lawful0).0.even u k may.1.up).0 ∙ ap (λ c. kept_after c (Some (turn_of p k u.input))) cut

  after_cut : u.cut ≡ true → node_at f1 u.node ≡ None
  after_cut cut = (turn_here t.places t.commands f0 (run_stands s0 lawful0).0.even u k may.1.up).0 ∙ ap (λ c. kept_after c (Some (turn_of p k u.input))) cut

  to_stop : u.cut ≡ true → f1.node_to_stop ≡ Some u.node
  unfolding facts_after
  to_stop cut = ap (λ c. if c then Some u.node else None) cut

  wrote_is : u.cut ≡ false → u.wrote ≡ d.wrote
  unfolding turn_of
  wrote_is cut = (subst (λ c. IsOwed p k u.input u.wrote u.sent c) cut may.1.owed).0

  sent_is : u.cut ≡ false → u.sent ≡ map (stamped d.after.clock) d.says
  unfolding turn_of
  sent_is cut = (subst (λ c. IsOwed p k u.input u.wrote u.sent c) cut may.1.owed).1

  -- ---- a root that was live

  module _ (siteless : Siteless) (cut : u.cut ≡ false) (s : Seen) (at : seen_at tr0 s.me ≡ Some s) (alive : s.exit ≡ None) (s_top : s.parent ≡ None) (own : u.node ≡ s.me.node) (z : Live) (found : live_at k s.me ≡ Some z) where
    abbrev new : Seen
    new = with_turn f0.book u (outcome_at t.places f0 u) (brings t.places f0 tr0 u) s

    me : z.me ≡ s.me
    me = item_is live_id k.lives s.me z found

    z_live : live_at k z.me ≡ Some z
    z_live = subst (λ c. live_at k c ≡ Some z) (sym me) found

    z_top : z.parent ≡ None
    z_top = by z.parent refl
      where
        by : (o : Option BranchId) → z.parent ≡ o → o ≡ None
        by None top = refl
        by (Some q) above =
            let it = lower_at t whole hs part0 u.node k may.1.up z z_live (λ none. absurd (cc (above, none))) in
            let both : Some it.0 ≡ Some s = sym it.1 ∙ (ap (seen_at tr0) me ∙ at) in
            let one : it.0 ≡ s = cc in
            let up : s.parent ≡ Some q = ap (λ (y : Seen). y.parent) (sym one) ∙ (it.2.parent ∙ above) in
            absurd (cc (up, s_top))

    was : IsTracedLive z s
    was =
        let it = tops u.node k may.1.up z z_live z_top in
        let both : Some it.0 ≡ Some s = sym it.1 ∙ (ap (seen_at tr0) me ∙ at) in
        let one : it.0 ≡ s = cc in
        subst (IsTracedLive z) one it.2

    -- it is told to leave where something drops it
    dropped : (input_drops u.node (brings t.places f0 tr0 u).answer s u.input || ends_siteless pl new) ≡ true → (turned t.places f0 tr0 u s).exit ≡ None → ⊥
    dropped drops none = absurd (by (recorded_exit s.me u.wrote) refl)
      where
        whole_some : (q : Bool) → (x : Exit) × ((if q then Some Quiet else (if input_drops u.node (brings t.places f0 tr0 u).answer s u.input || ends_siteless pl new then Some Dropped else None)) ≡ Some x)
        whole_some true = (Quiet, refl)
        whole_some false = (Dropped, ap (λ q. if q then Some Dropped else None) drops)

        by : (o : Option Exit) → recorded_exit s.me u.wrote ≡ o → ⊥
        by (Some e) wrote = (let left : (turned t.places f0 tr0 u s).exit ≡ Some e = ap (exit_after pl u (brings t.places f0 tr0 u).answer s new) alive ∙ ap (exit_by pl u (brings t.places f0 tr0 u).answer s new) wrote in absurd (cc (left, none)))
        by None wrote =
            let some = whole_some (list_any (is_quiet s.me) u.sent) in
            let left : (turned t.places f0 tr0 u s).exit ≡ Some some.0 = ap (exit_after pl u (brings t.places f0 tr0 u).answer s new) alive ∙ (ap (exit_by pl u (brings t.places f0 tr0 u).answer s new) wrote ∙ (ap (λ c. if c then None else whole_exit pl u (brings t.places f0 tr0 u).answer s new) cut ∙ some.1)) in
            absurd (cc (left, none))

    by_input : input_drops u.node (brings t.places f0 tr0 u).answer s u.input ≡ true → (turned t.places f0 tr0 u s).exit ≡ None → ⊥
    by_input drops = dropped (or_left (input_drops u.node (brings t.places f0 tr0 u).answer s u.input) (ends_siteless pl new) drops)

    is_root : (n : ℕ) → s.me.session ≡ n → is_root_of u.node n s ≡ true
    is_root n session =
        and_from (is_live_at u.node s) (is_none s.parent && (s.me.session == n)) (and_from (s.me.node == u.node) (is_none s.exit) (eq-eqb s.me.node u.node (sym own)) (ap is_none alive))
        (and_from (is_none s.parent) (s.me.session == n) (ap is_none s_top) (eq-eqb s.me.session n session))

    -- ---- answers

    module _ (from : BranchId) (v : Vote) (sb : Bool) (answers : Answers u.input z from v sb) where
      busy : z.phase ≢ phases.Working
      busy working = (let collecting = answers.collecting in absurd (cc (collecting, working)))

      abbrev m : Msg
      m = record { from = from; to = z.me; scn = answers.came.scn; kind = answers.kind }

      first_vote : is_first_vote s m ≡ true
      first_vote =
          let had = was.collects busy in
          let there = first_among s.voted from z.edges had.1 answers.first in
          and_from (same z.me s.me && is_vote answers.kind) _ (and_from (same z.me s.me) (is_vote answers.kind) (same_from_equal z.me s.me me) (vote_is v answers.kind answers.is_vote).0)
          (and_from (is_live s && s.collects) _ (and_from (is_live s) s.collects (ap is_none alive) had.0)
          (and_from (is_among from s.children) (not (is_among from s.voted)) (ap (is_among from) was.children ∙ there.0) (ap not there.1)))

    abort_drops : (from : BranchId) (sb : Bool) → Answers u.input z from votes.Abort sb → input_drops u.node (brings t.places f0 tr0 u).answer s u.input ≡ true
    abort_drops from sb answers =
        ap (input_drops u.node (brings t.places f0 tr0 u).answer s) answers.came.is
        ∙ or_right (same z.me s.me && kind_drops s from answers.kind) _ (and_from (is_first_vote s (m from votes.Abort sb answers)) (is_abort answers.kind) (first_vote from votes.Abort sb answers) (abort_is answers.kind answers.is_vote))

    -- ---- a collect that is complete without a site

    module _ (gone : live_at d.after s.me ≡ None) where
      kids_same : new.children ≡ children_of z
      kids_same =
          ap (children_after s.me s.children) (sent_is cut) ∙ (stamped_calls s.me d.after.clock s.children d.says ∙ ((kids.grown t whole hs u rest is (tells_at t whole hs part0)).1 s.me s.children gone ∙ was.children))

      complete : ((n : ℕ) (given : Option (List ℕ)) → IsCall u.input n (stmts.Commit given) → z.read_at ≡ None) → Finishes u.input z.me z k.sessions → (new.collects ≡ true) × (all_voted new ≡ true)
      complete writes (At_once n given call has code none at_end) = (
        or_right s.collects _ (ap (λ i. begins i) call ∙ and_from (is_none s.read_at) _ (ap is_none (was.read_at ∙ writes n given call))
            (and_from (is_root_of u.node n s) (not (is_refused (answered_by (outcome_at t.places f0 u)))) (is_root n (sym (ap (λ (b : BranchId). b.session) me) ∙ fit.roots.each n z.me has))
            (ap not (accepted t.places f0 tr0 u k may.1.up n given call code)))),
        ap (list_all (λ c. is_among c new.voted)) (kids_same ∙ ap (map (λ (e : Edge). e.peer)) none),
      )
        where
          begins : Input → Bool
          begins i = begins_collect u.node (brings t.places f0 tr0 u).answer s i
      complete writes (On_answer from v sb answers other all at_end) =
          let had = was.collects (busy from v sb answers) in
          let votes : new.voted ≡ s.voted ++ from ∷ [] = ap (voted_after s) answers.came.is ∙ ap (λ q. if q then s.voted ++ from ∷ [] else s.voted) (first_vote from v sb answers) in
          let heard_so : AreVoted (s.voted ++ from ∷ []) (voted z from v).edges = one_voted s.voted from v (vote_is v answers.kind answers.is_vote).1 z.edges had.1 in
          let none : list_any (λ e. is_awaited e.vote) (voted z from v).edges ≡ false = not-true (list_any (λ e. is_awaited e.vote) (voted z from v).edges) all in (
            or_left s.collects _ had.0,
            ap (list_all (λ c. is_among c new.voted)) (kids_same ∙ sym (voted_peers from v z.edges)) ∙ (ap (λ vs. list_all (λ c. is_among c vs) (map (λ (e : Edge). e.peer) (voted z from v).edges)) votes ∙ none_out (s.voted ++ from ∷ []) (voted z from v).edges heard_so none),
          )

      ends : ((n : ℕ) (given : Option (List ℕ)) → IsCall u.input n (stmts.Commit given) → z.read_at ≡ None) → Finishes u.input z.me z k.sessions → ends_siteless pl new ≡ true
      ends writes finishes =
          let so = complete writes finishes in
          and_from (is_none s.parent) (new.collects && (all_voted new && has_no_site (plan_at pl s.me))) (ap is_none s_top)
          (and_from new.collects (all_voted new && has_no_site (plan_at pl s.me)) so.0
          (and_from (all_voted new) (has_no_site (plan_at pl s.me)) so.1 (subst (λ b. has_no_site (plan_at pl b) ≡ true) me (siteless cut z z_live z_top writes finishes))))

    -- ---- it is live where it is told so

    top_not : (from : BranchId) → is_branch from z.parent ≡ true → ⊥
    top_not from above = (let up : z.parent ≡ Some from = branch_found from z.parent above in let none : z.parent ≡ None = z_top in absurd (cc (up, none)))

    -- a COMMIT with which it leaves is not refused
    reader_accepted : (n : ℕ) (comment : Option (List ℕ)) → IsCall u.input n (stmts.Commit comment) → s.me.session ≡ n → live_at d.after s.me ≡ None → is_refused (answered_by (outcome_at t.places f0 u)) ≡ false
    reader_accepted n comment call session gone = by (session_at k.sessions n).code refl
      where
        x : Branch
        x = record { live = z; work = work_at k z.me }

        has : (session_at k.sessions n).root ≡ Some z.me
        has = subst (λ i. (session_at k.sessions i).root ≡ Some z.me) (ap (λ (b : BranchId). b.session) me ∙ session) (roots_wait s0 lawful0 u.node k may.1.up x (ap (with_work k) z_live) z_top).root

        by : (code : Option ℕ) → (session_at k.sessions n).code ≡ code → is_refused (answered_by (outcome_at t.places f0 u)) ≡ false
        by None code = accepted t.places f0 tr0 u k may.1.up n comment call code
        by (Some c) code =
            let still : live_at (commit_call k n comment).after z.me ≡ Some z = commit_kept p k n x (ap (with_work k) z_live) has comment c code in
            let left : live_at (draft_of p k (inputs.Call n (Some (stmts.Commit comment)))).after z.me ≡ None = subst (λ i. live_at (draft_of p k i).after z.me ≡ None) call (subst (λ b. live_at d.after b ≡ None) (sym me) gone) in
            absurd (cc (still, left))

    -- by its COMMIT, where it is that of a READ ONLY transaction
    reader_leaves : (n : ℕ) (comment : Option (List ℕ)) (scn : ℕ) → IsCall u.input n (stmts.Commit comment) → z.read_at ≡ Some scn → s.me.session ≡ n → live_at d.after s.me ≡ None → (turned t.places f0 tr0 u s).exit ≡ None → ⊥
    reader_leaves n comment scn call reads session gone none =
        by_input (ap (input_drops u.node (brings t.places f0 tr0 u).answer s) call
        ∙ and_from (is_some s.read_at) _ (ap is_some (was.read_at ∙ reads)) (and_from (is_root_of u.node n s) (not (is_refused (answered_by (outcome_at t.places f0 u)))) (is_root n session) (ap not (reader_accepted n comment call session gone)))) none

    finished : Finishes u.input z.me z k.sessions → live_at d.after s.me ≡ None → (turned t.places f0 tr0 u s).exit ≡ None → ⊥
    finished (On_answer from v sb answers other all at_end) gone none =
        dropped (or_right (input_drops u.node (brings t.places f0 tr0 u).answer s u.input) (ends_siteless pl new)
        (ends gone (λ n given call. (let came = answers.came.is in absurd (cc (came, call)))) (On_answer from v sb answers other all at_end))) none
    finished (At_once n given call has code no_children at_end) gone none = by z.read_at refl
      where
        by : (o : Option ℕ) → z.read_at ≡ o → ⊥
        by (Some scn) reads = reader_leaves n given scn call reads (sym (ap (λ (b : BranchId). b.session) me) ∙ fit.roots.each n z.me has) gone none
        by None writer =
            dropped (or_right (input_drops u.node (brings t.places f0 tr0 u).answer s u.input) (ends_siteless pl new)
            (ends gone (λ m other commit. writer) (At_once n given call has code no_children at_end))) none

    leaves : Why u.input s.me z k.sessions d.wrote d.says → live_at d.after s.me ≡ None → (turned t.places f0 tr0 u s).exit ≡ None → ⊥
    leaves (By_record e wrote) gone none =
        (let left : (turned t.places f0 tr0 u s).exit ≡ Some e = ap (exit_after pl u (brings t.places f0 tr0 u).answer s new) alive ∙ ap (exit_by pl u (brings t.places f0 tr0 u).answer s new) (ap (recorded_exit s.me) (wrote_is cut) ∙ wrote) in absurd (cc (left, none)))
    leaves (By_quiet q above said) gone none = absurd (let top : z.parent ≡ None = z_top in cc (above, top))
    leaves (By_finish top finishes) gone none = finished (subst (λ b. Finishes u.input b z k.sessions) (sym me) finishes) gone none
    leaves (By_abort from sb answers) gone none = by_input (abort_drops from sb answers) none
    leaves (By_rollback from came) gone none = by_input (ap (input_drops u.node (brings t.places f0 tr0 u).answer s) came.is ∙ or_left (same s.me s.me && true) _ (and_from (same s.me s.me) true (same_from_equal s.me s.me refl) refl)) none
    leaves (By_parent from came above) gone none = top_not from above
    leaves (By_ask from came above) gone none = top_not from above
    leaves (By_call n call session top) gone none = by_input (ap (input_drops u.node (brings t.places f0 tr0 u).answer s) call ∙ is_root n session) none
    leaves (By_reading n comment scn call reads session top) gone none = reader_leaves n comment scn call reads session gone none
    leaves (By_give_up n gives has pends) gone none =
        by_input (ap (input_drops u.node (brings t.places f0 tr0 u).answer s) gives ∙ and_from (is_root_of u.node n s) s.collects (is_root n (fit.roots.each n s.me has)) (was.collects (λ working. (goes u.node k may.1.up n s.me has).1 pends z found working)).0) none

    why : live_at d.after s.me ≡ None → Why u.input s.me z k.sessions d.wrote d.says
    why gone =
        subst (λ ss. Why u.input s.me z ss d.wrote d.says) (sessions_heard k u.input)
        (why_on u.input s.me z p (λ from sb comment came. before.prepared from s.me sb comment came z found)
        (λ top phase. (live_told s0 lawful0 u.node k may.1.up z z_live).root top (ap way_of phase)) (serves t.places f0 u k may.1).step (heard_fits k fit u.input) (heard_live k u.input s.me ∙ found) gone)

    pub stays_back : (turned t.places f0 tr0 u s).exit ≡ None → IsBack f1 s.me
    stays_back none = by (live_at d.after s.me) refl
      where
        by : (o : Option Live) → live_at d.after s.me ≡ o → IsBack f1 s.me
        by (Some l) there = inl (d.after, l, subst (λ n. node_at f1 n ≡ Some d.after) own (after_is cut), there)
        by None gone = absurd (leaves (why gone) gone none)

  -- ---- every root

  module _ (siteless : Siteless) where
    old_back : (s : Seen) → Back f0 s × (seen_at tr0 s.me ≡ Some s) → Back f1 (turned t.places f0 tr0 u s)
    old_back s had none top = by s.exit refl
      where
        at_node : (k' : NodeState) (l : Live) → node_at f0 s.me.node ≡ Some k' → live_at k' s.me ≡ Some l → s.exit ≡ None → IsBack f1 s.me
        at_node k' l up live alive = elim (cases_eq u.node s.me.node) [
          | inr other ↦ inl (k', l, (turn_elsewhere t.places t.commands f0 (run_stands s0 lawful0).0.even u s.me.node other).0 ∙ up, live)
          | inl own ↦ here own u.cut refl
        ]
          where
            here : u.node ≡ s.me.node → (c : Bool) → u.cut ≡ c → IsBack f1 s.me
            here own true cut = inr (subst (λ n. f1.node_to_stop ≡ Some n) own (to_stop cut), subst (λ n. node_at f1 n ≡ None) own (after_cut cut))
            here own false cut =
                let both : Some k ≡ Some k' = sym (subst (λ n. node_at f0 n ≡ Some k) own may.1.up) ∙ up in
                let it : k ≡ k' = cc in
                stays_back siteless cut s had.1 alive top own l (subst (λ i. live_at i s.me ≡ Some l) (sym it) live) none

        by : (o : Option Exit) → s.exit ≡ o → IsBack f1 s.me
        by (Some e) gone = (let left : (turned t.places f0 tr0 u s).exit ≡ Some e = ap (exit_after pl u (brings t.places f0 tr0 u).answer s (with_turn f0.book u (outcome_at t.places f0 u) (brings t.places f0 tr0 u) s)) gone in absurd (cc (left, none)))
        by None alive = elim (had.0 alive top) [
          | inl it ↦ at_node it.0 it.1 it.2 it.3 alive
          | inr stops ↦ (let settled = may.1.settled.upright in let to = stops.0 in absurd (cc (settled, to)))
        ]

    new_back : (ys : List Seen) → u.cut ≡ false → TurnBegins t whole hs u rest is sees counts born ys → AllByRecursion (λ s. Back f1 (turned t.places f0 tr0 u s)) ys
    new_back ys cut (None_begins nobody are) = subst (AllByRecursion (λ s. Back f1 (turned t.places f0 tr0 u s))) (sym are) tt
    new_back ys cut (Child_begins y nobody its below alive untold are) = subst (AllByRecursion (λ s. Back f1 (turned t.places f0 tr0 u s))) (sym are) ((λ none top. absurd (below top)), tt)
    new_back ys cut (Root_begins n st call rows range none are) =
        let unborn = root_unborn t whole hs u rest is sees counts born n st call rows none in
        let so : Fresh p k n d = subst (λ i. Fresh p k n (draft_of p k i)) (sym call) (fresh_so p k n (not_live t whole hs u rest is sees counts born (new_root p k n) unborn) fit range none st rows) in
        let number : p.number ≡ u.node = number_is t.places t.commands t.of_a_script.each f0 u.node k (run_births s0 lawful0).0.1.many may.1.up in
        subst (AllByRecursion (λ s. Back f1 (turned t.places f0 tr0 u s))) (sym are)
        ((λ alive top. inl (d.after, so.live, subst (λ m. node_at f1 m ≡ Some d.after) (sym number) (after_is cut), so.found)), tt)

    pub back_on : AllByRecursion (Back f0) tr0.seen → AllByRecursion (Back f1) tr1.seen
    unfolding trail_after
    back_on back =
        all_map (Back f1) (turned t.places f0 tr0 u) (begun t.places f0 tr0 u).seen
        (all_append (λ s. Back f1 (turned t.places f0 tr0 u s)) tr0.seen (begun_in_turn f0 tr0 u)
        (all_weaker (λ s. Back f0 s × (seen_at tr0 s.me ≡ Some s)) (λ s. Back f1 (turned t.places f0 tr0 u s)) old_back tr0.seen (all_both (Back f0) (λ s. seen_at tr0 s.me ≡ Some s) tr0.seen back alone)) (new u.cut refl))
      where
        new : (c : Bool) → u.cut ≡ c → AllByRecursion (λ s. Back f1 (turned t.places f0 tr0 u s)) (begun_in_turn f0 tr0 u)
        new true cut = subst (AllByRecursion (λ s. Back f1 (turned t.places f0 tr0 u s))) (sym (none_cut t whole hs u rest is sees counts born cut)) tt
        new false cut = new_back (begun_in_turn f0 tr0 u) cut (view t whole hs u rest is sees counts born cut)
