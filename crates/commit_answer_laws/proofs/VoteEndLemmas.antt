-- A turn ends a COMMIT that is pending as a child's Abort comes to its root, and as the last answer comes to a root of whose session
-- tree no branch had changes: it seals nothing then and decides nothing, since its plan has no site.
use Rattle.std.proofs.Common.{◌≡◌, ◌≢◌, ◌==◌, ◌++◌, ◌&&◌, ◌||◌, not, Bool, true, false, if◌then◌else◌, is_none, List, [], ◌∷◌, map, Option, Some, None, inl, inr, refl, sym, ap, subst, ◌∙◌}
use Rattle.std.specs.Prelude.{IfSome}
use Rattle.std.specs.List.{list_any, list_all}
use Rattle.std.proofs.lemmas.Bool.{and_from, and_parts, cond_both, eqb-true, not-true, or_left, or_right}
use Rattle.tran_ids.proofs.BranchLemmas.{equal_from_same}
use Rattle.tran_ids.proofs.ListedLemmas.{item_is}
use Rattle.redo_record.specs.Rows.{toward_of}
use Rattle.agreement.specs.Events.{Exit, exit}
use Rattle.session_tree.specs.Live.{children_of}
use Rattle.session_tree.specs.Tree.{step}
use Rattle.session_tree.specs.declared.act.Walk.{Walk}
use Rattle.session_tree.specs.declared.act.Walk.TheVariants as walks
use Rattle.node_rules.specs.Data.{Act, Answer, BranchId, Decided, Edge, Input, KeptRow, Kind, Live, Msg, Phase, Sealed, Vote}
use Rattle.node_rules.specs.Data.acts
use Rattle.node_rules.specs.Data.inputs
use Rattle.node_rules.specs.Data.kinds
use Rattle.node_rules.specs.Data.phases
use Rattle.node_rules.specs.Data.records
use Rattle.node_rules.specs.Data.stmts
use Rattle.node_rules.specs.Data.votes
use Rattle.node_rules.specs.declared.session.PendingCall.TheVariants as pending
use Rattle.node_rules.specs.NodeState.{NodeState, Branch, TurnDraft, nothing, with_work, work_at, live_id, live_at, kept_row_id, kept_row_at}
use Rattle.node_rules.specs.Prepare.{abandon_ends, act_turn, all_answered, answer_act, answer_in, answers_first, collected_act, has_voted, is_awaited, next_act, on_answer, root_act, voted}
use Rattle.node_rules.specs.Sessions.{session_at, commit_answer, commit_complete, tran_refusal}
use Rattle.node_rules.specs.Turn.{Is_live, draft_of, heard, kind_turn, live_or, status_of, turn_of}
use Rattle.node_rules.specs.Words.{same}
use Rattle.run_rules.specs.Branches.{CommitPlan, Seen, is_among, is_live, is_live_at, is_root_of, all_voted, plan_at, seen_at, seen_id}
use Rattle.run_rules.specs.Data.{Turn, Happening}
use Rattle.run_rules.specs.Data.happenings
use Rattle.run_rules.specs.Each.{AtEach}
use Rattle.run_rules.specs.Facts.{first_facts, node_at}
use Rattle.run_rules.specs.Lawful.{History, IsLawfulRun, MayTurn}
use Rattle.run_rules.specs.Trail.{has_no_site, is_vote, voted_after}
use Rattle.run_claims.specs.Knowledge.{IsAbortTo, IsCommitOfLeaf, IsFirstVote}
use Rattle.run_claims.specs.Site.{DecidedBySite, IsSite, NamesToward, RecordIsSo}
use Rattle.run_base_laws.specs.BirthLaws.{Began, LiveIs}
use Rattle.run_base_laws.specs.EventRows.{RowIs}
use Rattle.run_base_laws.specs.InTurnLaws.{said_in}
use Rattle.run_base_laws.specs.NodeLaws.{EachFactFrom}
use Rattle.run_base_laws.proofs.BirthRunLemmas.{nodes_name_the_born}
use Rattle.run_base_laws.proofs.EventsStandLemmas.{ids_name_their_node, nodes_are_as_events}
use Rattle.run_base_laws.proofs.LawfulLemmas.{turn_of_node}
use Rattle.run_base_laws.proofs.OwnLemmas.{all_found}
use Rattle.run_base_laws.proofs.RestRunLemmas.{NodeRests, run_roots}
use Rattle.run_base_laws.proofs.RootLemmas.{root_alone}
use Rattle.run_branch_laws.specs.PhaseLaws.{PhaseFits}
use Rattle.run_branch_laws.proofs.PhaseLemmas.{phases_fit}
use Rattle.run_rules.proofs.ListLemmas.{map_after}
use Rattle.tree_laws.specs.AskLaws.{way_of}
use Rattle.tree_laws.specs.RecordLaws.{RecordLeads, WritesAsTold}
use Rattle.tree_laws.proofs.AskRunLemmas.{live_told}
use Rattle.tree_laws.proofs.AtTurn.{at_turn}
use Rattle.tree_laws.proofs.ForestLemmas as trees
use Rattle.tree_laws.proofs.PrefixLemmas.{f_at}
use Rattle.tree_laws.proofs.RecordRunLemmas.{records_are_as_told}
use Rattle.tree_laws.proofs.SettleRunLemmas.{known}
use Rattle.tree_laws.proofs.TimeLemmas.{fact_at}
use Rattle.tree_trail_laws.specs.LowerLaws.{AreVoted, IsTracedLive}
use Rattle.tree_trail_laws.specs.SeenLaws.{Sees, TracesOwns}
use Rattle.tree_trail_laws.proofs.AtTrail.{at_trail}
use Rattle.tree_trail_laws.proofs.CallLemmas.{call_free}
use Rattle.tree_trail_laws.proofs.FullLemmas.{SeesAll, full}
use Rattle.tree_trail_laws.proofs.HearLemmas.{one_voted}
use Rattle.tree_trail_laws.proofs.LeftLemmas.{IsToldLeft, left_are_told}
use Rattle.tree_trail_laws.proofs.MomentLemmas.{at_moment, by_moment}
use Rattle.tree_trail_laws.proofs.PlanLemmas.{find_passes}
use Rattle.tree_trail_laws.proofs.SeenRunLemmas.{all_is_seen, every_site_decides}
use Rattle.tree_trail_laws.proofs.TopBackLemmas.{Back, IsBack}
use Rattle.tree_trail_laws.proofs.TopFollowLemmas.{tops_at}
use Rattle.tree_cover_laws.proofs.NeighborLemmas.{seals_name_toward}
use Rattle.commit_answer_laws.specs.CommitCauses.{AllAgree}
use Rattle.commit_answer_laws.specs.CommitEndLaws.{CommitPends, EndsCall}
use Rattle.commit_answer_laws.proofs.CauseEndLemmas.{Ends, EndsBy, alive, by_draft, held, own_ends}
use Rattle.commit_answer_laws.proofs.RootHoldLemmas.{Holds}
use Rattle.commit_answer_laws.proofs.SitelessLemmas.{plans_on, plans_were, siteless_way}

-- ---- answers

awaits : (q : Bool) → not q ≡ false → q ≡ true
awaits true is = refl
awaits false is = absurd cc

neither : (p q : Bool) → p ≡ false → q ≡ false → (p || q) ≡ false
neither false q is rest = rest
neither true q is rest = absurd cc

no_exit : (o : Option Exit) → is_none o ≡ true → o ≡ None
no_exit None is = refl
no_exit (Some x) is = absurd cc

-- a child that is told not to have answered answers first
first_back : (votes : List BranchId) (from : BranchId) (es : List Edge) → AreVoted votes es → is_among from (map (λ (e : Edge). e.peer) es) ≡ true → is_among from votes ≡ false → list_any (answers_first from) es ≡ true
first_back votes from [] all some none = absurd cc
first_back votes from (e ∷ es) all some none = by (same e.peer from) refl some (λ later. first_back votes from es all.1 later none)
  where
    by : (q : Bool) → same e.peer from ≡ q → (q || is_among from (map (λ (x : Edge). x.peer) es)) ≡ true → (is_among from (map (λ (x : Edge). x.peer) es) ≡ true → list_any (answers_first from) es ≡ true)
        → (answers_first from e || list_any (answers_first from) es) ≡ true
    by true here there rest =
        let new : is_among e.peer votes ≡ false = subst (λ c. is_among c votes ≡ false) (sym (equal_from_same e.peer from here)) none in
        or_left (answers_first from e) (list_any (answers_first from) es) (and_from (same e.peer from) (is_awaited e.vote) here (awaits (is_awaited e.vote) (sym all.0 ∙ new)))
    by false other there rest = or_right (answers_first from e) (list_any (answers_first from) es) (rest there)

-- where all are told to have answered none is awaited
none_waits : (votes : List BranchId) (es : List Edge) → AreVoted votes es → list_all (λ c. is_among c votes) (map (λ (e : Edge). e.peer) es) ≡ true → list_any (λ (e : Edge). is_awaited e.vote) es ≡ false
none_waits votes [] all heard = refl
none_waits votes (e ∷ es) all heard =
    let parts = and_parts (is_among e.peer votes) (list_all (λ c. is_among c votes) (map (λ (x : Edge). x.peer) es)) heard in
    neither (is_awaited e.vote) (list_any (λ (x : Edge). is_awaited x.vote) es) (not-true (is_awaited e.vote) (sym all.0 ∙ parts.0)) (none_waits votes es all.1 parts.1)

voted_peers : (from : BranchId) (v : Vote) (es : List Edge) → map (λ (e : Edge). e.peer) (map (has_voted from v) es) ≡ map (λ (e : Edge). e.peer) es
voted_peers from v es =
    map_after (λ (e : Edge). e.peer) (has_voted from v) (λ (e : Edge). e.peer) (λ e. cond_both (answers_first from e) (record e { vote = v }) e (λ (x : Edge). x.peer ≡ e.peer) (λ here. refl) (λ other. refl)) es

-- ---- a turn

module _ (t : History) (whole : IsLawfulRun t) (hs : List Happening) (u : Turn) (rest : List Happening) (is : hs ++ happenings.Turn u ∷ rest ≡ t.trace) (k : NodeState) (up : node_at (f_at t hs) u.node ≡ Some k) (g : BranchId) (pending_it : CommitPends k g) where
  open at_turn t whole hs u rest is use {h, s as s0, f, e, bs, part, lawful, may, p as place}
  open at_trail t hs u use {tr, tr_on}

  abbrev Ended : Answer → Type 0
  Ended a = Ends t whole hs u rest is k up g pending_it a

  turn : MayTurn t.places f u k
  turn = turn_of_node t.places f u k t.commands may up

  saw : Sees f tr
  saw = at_moment t (λ places f tr h. Sees f tr) (all_is_seen t whole) hs h rest is

  sees : SeesAll t
  sees = full t whole (all_is_seen t whole)

  owns : AtEach (λ places f tr h. TracesOwns f tr) t
  owns = by_moment t (λ places f tr h. TracesOwns f tr) (λ hs h rest is. (at_moment t (λ places f tr x. Sees f tr) (all_is_seen t whole) hs h rest is).owns)

  -- ---- a root that is told to be live has no row

  module _ (s : Seen) (at : seen_at tr g ≡ Some s) (lives : s.exit ≡ None) where
    back : s.parent ≡ None → IsBack f g
    back top = subst (IsBack f) (item_is seen_id tr.seen g s at) (all_found (Back f) seen_id tr.seen g s (tops_at t whole owns hs part).1.back at lives top)

    module _ (r : KeptRow) (row : kept_row_at k g ≡ Some r) where
      r_me : r.me ≡ g
      r_me = item_is kept_row_id k.stored.durable.kept g r row

      at_g : node_at f g.node ≡ Some k
      at_g =
          let here : r.me.node ≡ u.node = all_found (λ (x : KeptRow). x.me.node ≡ u.node) kept_row_id k.stored.durable.kept g r (ids_name_their_node s0 lawful u.node k up).rows row in
          subst (λ n. node_at f n ≡ Some k) (sym here ∙ ap (λ (c : BranchId). c.node) r_me) up

      left : exit e g ≢ None
      left = subst (λ c. exit e c ≢ None) r_me (all_found (RowIs e) kept_row_id k.stored.durable.kept g r (nodes_are_as_events s0 lawful u.node k up).1 row).left

      not_back : IsBack f g → ⊥
      not_back (inl there) =
          let both : Some there.0 ≡ Some k = sym there.2 ∙ at_g in
          let one : there.0 ≡ k = cc in
          left (alive t whole hs u rest is k up g pending_it there.1 (subst (λ (j : NodeState). live_at j g ≡ Some there.1) one there.3))
      not_back (inr gone) = (let none = gone.1 in let some = at_g in absurd (cc (none, some)))

      told_by : (it : IsToldLeft bs f tr g) → it.seen ≡ s → (o : Option BranchId) → it.born.parent ≡ o → ⊥
      told_by it one None top = not_back (back (ap (λ (x : Seen). x.parent) (sym one) ∙ (it.parent ∙ top)))
      told_by it one (Some q) above = elim (it.left (λ none. absurd (cc (above, none)))) [
        | inl out ↦ (let some : s.exit ≡ Some out.0 = ap (λ (x : Seen). x.exit) (sym one) ∙ out.1 in absurd (cc (some, lives)))
        | inr stops ↦ (let none = turn.settled.upright in absurd (cc (none, stops)))
      ]

      rowless : ⊥
      rowless = by (exit e g) refl
        where
          by : (o : Option Exit) → exit e g ≡ o → ⊥
          by None none = left none
          by (Some x) out =
              let it : IsToldLeft bs f tr g = left_are_told t whole sees hs part g x out in
              let both : Some it.seen ≡ Some s = sym it.at ∙ at in
              told_by it (let one : it.seen ≡ s = cc in one) it.born.parent refl

    -- so it is live
    live_root : (z : Live) × (live_at k g ≡ Some z)
    live_root = by (held t whole hs u rest is k up g pending_it)
      where
        by : Holds k.lives k.stored.durable.kept g → (z : Live) × (live_at k g ≡ Some z)
        by (inl live) = live
        by (inr row) = absurd (rowless row.0 row.1)

  -- ---- a live root, as a child's first answer comes

  module _ (s : Seen) (m : Msg) (vote : IsFirstVote tr g u.input s m) where
    abbrev from : BranchId
    from = m.from

    parts : (((same m.to s.me ≡ true) × (is_vote m.kind ≡ true)) × ((is_none s.exit ≡ true) × (s.collects ≡ true))) × ((is_among from s.children ≡ true) × (is_among from s.voted ≡ false))
    parts =
        let outer = and_parts (same m.to s.me && is_vote m.kind) ((is_live s && s.collects) && (is_among from s.children && not (is_among from s.voted))) vote.first in
        let inner = and_parts (is_live s && s.collects) (is_among from s.children && not (is_among from s.voted)) outer.1 in
        let kid = and_parts (is_among from s.children) (not (is_among from s.voted)) inner.1 in
        ((and_parts (same m.to s.me) (is_vote m.kind) outer.0, and_parts (is_live s) s.collects inner.0), (kid.0, not-true (is_among from s.voted) kid.1))

    to : m.to ≡ g
    to = equal_from_same m.to s.me parts.0.0.0 ∙ item_is seen_id tr.seen g s vote.seen

    root : (z : Live) × (live_at k g ≡ Some z)
    root = live_root s vote.seen (no_exit s.exit parts.0.1.0)

    abbrev z : Live
    z = root.0

    me : z.me ≡ g
    me = item_is live_id k.lives g z root.1

    found : live_at k z.me ≡ Some z
    found = subst (λ c. live_at k c ≡ Some z) (sym me) root.1

    top : z.parent ≡ None
    top = (let rests : NodeRests k = subst (λ q. IfSome q NodeRests) up (run_roots s0 lawful u.node) in root_alone k rests.0 g.session g pending_it.root z root.1)

    told : IsTracedLive z s
    told =
        let seen = saw.tops u.node k up z found top in
        let both : Some seen.0 ≡ Some s = sym (subst (λ c. seen_at tr c ≡ Some seen.0) me seen.1) ∙ vote.seen in
        let one : seen.0 ≡ s = cc in
        subst (IsTracedLive z) one seen.2

    busy : z.phase ≢ phases.Working
    busy working = (let none = (told.working working).0 in let some = parts.0.1.1 in absurd (cc (none, some)))

    votes_are : AreVoted s.voted z.edges
    votes_are = (told.collects busy).1

    first : list_any (answers_first from) z.edges ≡ true
    first = first_back s.voted from z.edges votes_are (subst (λ cs. is_among from cs ≡ true) told.children parts.1.0) parts.1.1

    collecting_it : z.phase ≡ phases.Collecting true
    collecting_it = by z.phase refl (all_found (λ (l : Live). PhaseFits l.parent l.edges l.phase) live_id k.lives g z (phases_fit s0 lawful u.node k up) root.1)
      where
        by : (phase : Phase) → z.phase ≡ phase → PhaseFits z.parent z.edges z.phase → z.phase ≡ phases.Collecting true
        by phases.Working at fits = absurd (busy at)
        by (phases.Collecting true) at fits = at
        by (phases.Collecting false) at fits = absurd ((live_told s0 lawful u.node k up z found).root top (ap way_of at))
        by phases.Ready at fits = absurd ((subst (PhaseFits z.parent z.edges) at fits).2 top)

    -- what its node does about it
    module _ (kind : Kind) (is_kind : m.kind ≡ kind) (v : Vote) (hears : (k : NodeState) (x : Branch) → kind_turn place k from g kind (Is_live x) ≡ on_answer k x.live from v) where
      abbrev input : Input
      input = inputs.Message (record { from = from; to = g; scn = m.scn; kind = kind })

      abbrev k0 : NodeState
      k0 = heard k input

      abbrev x : Branch
      x = record { live = z; work = work_at k0 z.me }

      abbrev l : Live
      l = voted z from v

      came : u.input ≡ input
      came =
          vote.came ∙ (ap (λ b. inputs.Message (record { from = from; to = b; scn = m.scn; kind = m.kind })) to
          ∙ ap (λ (c : Kind). inputs.Message (record { from = from; to = g; scn = m.scn; kind = c })) is_kind)

      stands_live : status_of k0 g ≡ Is_live x
      unfolding status_of
      stands_live = ap (λ o. live_or o (kept_row_at k0 g)) (ap (with_work k0) root.1)

      acts_so : (a : Act) → answer_act l true v ≡ a → draft_of place k input ≡ act_turn k0 l true a
      acts_so a act =
          ap (kind_turn place k0 from g kind) stands_live
          ∙ (hears k0 x
          ∙ (ap (answer_in k0 z from v) collecting_it
          ∙ (ap (λ q. if q then act_turn k0 l true (answer_act l true v) else nothing k0) first
          ∙ ap (act_turn k0 l true) act)))

      ends_by : (a : Answer) (c : Act) → answer_act l true v ≡ c → EndsCall (record { session = g.session; answer = a }) (act_turn k0 l true c).ended → Ended a
      ends_by a c act ends = by_draft t whole hs u rest is k up g pending_it a input came (subst (EndsBy t whole hs u rest is k up g pending_it a) (sym (acts_so c act)) ends)

      its_answer : (a : Answer) → EndsCall (record { session = g.session; answer = a }) (commit_answer k.sessions l.me a)
      its_answer a = subst (λ i. EndsCall (record { session = g.session; answer = a }) (commit_answer k.sessions i a)) (sym me) (own_ends k.sessions g pending_it.root pending_it.call a)

      -- the record of the turn is that of the act
      module _ (owed : u.wrote ≡ (turn_of place k u.input).wrote) where
        wrote_by : (c : Act) → answer_act l true v ≡ c → u.wrote ≡ (act_turn k0 l true c).wrote
        unfolding turn_of
        wrote_by c act = owed ∙ (ap (λ i. (draft_of place k i).wrote) came ∙ ap (λ (d : TurnDraft). d.wrote) (acts_so c act))

    -- ---- Abort

    aborted_ends : m.kind ≡ kinds.Abort → Ended (tran_refusal 2050 g)
    aborted_ends abort =
        ends_by kinds.Abort abort votes.Abort (λ k x. refl) (tran_refusal 2050 g) acts.Abandon refl
        (subst (λ o. EndsCall (record { session = g.session; answer = tran_refusal 2050 g }) (abandon_ends k.sessions (voted z from votes.Abort) o)) (sym top)
        (subst (λ i. EndsCall (record { session = g.session; answer = tran_refusal 2050 g }) (commit_answer k.sessions i (tran_refusal 2050 i))) (sym me)
        (own_ends k.sessions g pending_it.root pending_it.call (tran_refusal 2050 g))))

    -- ---- the last answer

    module _ (all : all_voted (record s { voted = voted_after s u.input }) ≡ true) (siteless : has_no_site (plan_at tr_on g) ≡ true) (owed : u.wrote ≡ (turn_of place k u.input).wrote) where
      all_heard : list_all (λ c. is_among c (s.voted ++ from ∷ [])) (children_of z) ≡ true
      all_heard =
          let votes : voted_after s u.input ≡ s.voted ++ from ∷ [] = ap (voted_after s) vote.came ∙ ap (λ q. if q then s.voted ++ from ∷ [] else s.voted) vote.first in
          ap (λ cs. list_all (λ c. is_among c (s.voted ++ from ∷ [])) cs) (sym told.children) ∙ (ap (λ vs. list_all (λ c. is_among c vs) s.children) (sym votes) ∙ all)

      answered_all : (v : Vote) → is_awaited v ≡ false → all_answered (voted z from v) ≡ true
      answered_all v given =
          ap not (none_waits (s.voted ++ from ∷ []) (map (has_voted from v) z.edges) (one_voted s.voted from v given z.edges votes_are)
          (ap (λ cs. list_all (λ c. is_among c (s.voted ++ from ∷ [])) cs) (voted_peers from v z.edges) ∙ all_heard))

      z_root : z.root ≡ g
      z_root =
          let its : LiveIs (Began bs) z = all_found (LiveIs (Began bs)) live_id k.lives g z (nodes_name_the_born s0 lawful u.node k up).0 root.1 in
          let stands = trees.stands_so bs (said_in f) (known s0 lawful) its.born None its.began (its.is_parent ∙ top) in
          sym its.is_root ∙ (stands.0 ∙ (its.is_me ∙ me))

      -- a plan without a site has none
      no_plan : (o : Option CommitPlan) → plan_at tr_on g ≡ o → (p : CommitPlan) → o ≡ Some p → has_no_site (Some p) ≡ true
      no_plan o at p it = ap has_no_site (sym (at ∙ it)) ∙ siteless

      undecided : (r : Decided) → u.wrote ≡ Some (records.Decided r) → r.root ≡ g → ⊥
      undecided r wrote of =
          let by_site : IsSite tr_on r = subst (λ w. IfSome w (DecidedBySite tr_on)) wrote (at_moment t (RecordIsSo DecidedBySite) (every_site_decides t whole) hs h rest is) in
          let there : plan_at tr_on g ≡ Some by_site.plan = subst (λ c. plan_at tr_on c ≡ Some by_site.plan) of by_site.planned in
          let none : is_none by_site.plan.site ≡ true = no_plan (plan_at tr_on g) refl by_site.plan there in
          let some : is_none by_site.plan.site ≡ false = ap is_none by_site.here in
          absurd (cc (none, some))

      unsealed : (r : Sealed) → u.wrote ≡ Some (records.Sealed r) → r.root ≡ g → r.parent ≡ None → ⊥
      unsealed r wrote of above =
          let names : NamesToward tr_on (records.Sealed r) = subst (λ w. IfSome w (NamesToward tr_on)) wrote (at_moment t (RecordIsSo NamesToward) (seals_name_toward t whole) hs h rest is) in
          let leads : RecordLeads (said_in f) (records.Sealed r) = subst (λ w. IfSome w (RecordLeads (said_in f))) wrote
          (fact_at t.places t.commands (WritesAsTold t.places) (first_facts t.places) hs h rest (subst (EachFactFrom (WritesAsTold t.places) t.places t.commands (first_facts t.places)) (sym is) (records_are_as_told t whole))) in
          let there : plan_at tr_on g ≡ Some names.1.plan = subst (λ c. plan_at tr_on c ≡ Some names.1.plan) of names.1.planned in
          let way : names.0.toward ≡ names.0.parent
          = siteless_way t tr_on (plans_on t f tr h (plans_were t hs)) g names.1.plan there (no_plan (plan_at tr_on g) refl names.1.plan there) names.1.place names.0 names.1.listed in
          let none : toward_of r r.toward ≡ None = names.4 ∙ (way ∙ (sym names.3 ∙ above)) in
          let some = leads.1 in
          absurd (cc (none, some))

      last_ends : (kind : Kind) → m.kind ≡ kind → (v : Vote) → ((k : NodeState) (x : Branch) → kind_turn place k from g kind (Is_live x) ≡ on_answer k x.live from v) → is_awaited v ≡ false → ((y : Live) → answer_act y true v ≡ next_act y true)
          → Ended commit_complete
      last_ends kind is_kind v hears given plain = by_walk (step (voted z from v)) refl
        where
          act : answer_act (voted z from v) true v ≡ root_act (step (voted z from v))
          act =
              plain (voted z from v)
              ∙ (ap (λ q. if q then collected_act (voted z from v) true else acts.Rest) (answered_all v given) ∙ ap (λ (o : Option BranchId). if is_none o then root_act (step (voted z from v)) else acts.SayReady) top)

          by_walk : (w : Walk) → step (voted z from v) ≡ w → Ended commit_complete
          by_walk walks.Nowhere at = ends_by kind is_kind v hears commit_complete acts.Finish (act ∙ ap root_act at) (its_answer kind is_kind v hears commit_complete)
          by_walk walks.Here at = absurd (undecided _ (wrote_by kind is_kind v hears owed acts.Decide (act ∙ ap root_act at)) z_root)
          by_walk (walks.Down i) at = absurd (unsealed _ (wrote_by kind is_kind v hears owed (acts.SealAndPass i) (act ∙ ap root_act at)) z_root top)

      settles : m.kind ≢ kinds.Abort → Ended commit_complete
      settles other = by m.kind refl parts.0.0.1
        where
          by : (kind : Kind) → m.kind ≡ kind → is_vote kind ≡ true → Ended commit_complete
          by kinds.Prepared at vote_so = last_ends kinds.Prepared at votes.Prepared (λ k x. refl) refl (λ y. refl)
          by kinds.ReadOnly at vote_so = last_ends kinds.ReadOnly at votes.ReadOnly (λ k x. refl) refl (λ y. refl)
          by kinds.Ready at vote_so = last_ends kinds.Ready at votes.Ready (λ k x. refl) refl (λ y. refl)
          by kinds.Abort at vote_so = absurd (other at)
          by _ at vote_so = absurd cc

  -- ---- both causes

  pub child_aborted : IsAbortTo tr g u.input → Ended (tran_refusal 2050 g)
  child_aborted abort = aborted_ends abort.0 abort.1 abort.2 abort.3

  -- no COMMIT comes to a session whose COMMIT is pending
  no_commit_comes : IsCommitOfLeaf tr u.node g u.input → ⊥
  no_commit_comes leaf =
      let free : (session_at k.sessions leaf.0).call ≡ pending.NoCall = (call_free f k u.node u.input u.took leaf.0 (Some (stmts.Commit leaf.1)) leaf.3 turn.comes).1 in
      let s : Seen = leaf.2 in
      let is_root : is_root_of u.node leaf.0 s ≡ true = find_passes (is_root_of u.node leaf.0) tr.seen s leaf.4 in
      let inner = and_parts (is_none s.parent) (s.me.session == leaf.0) (and_parts (is_live_at u.node s) (is_none s.parent && (s.me.session == leaf.0)) is_root).1 in
      let session : g.session ≡ leaf.0 = ap (λ (b : BranchId). b.session) (sym leaf.5) ∙ eqb-true s.me.session leaf.0 inner.1 in
      let commits : (session_at k.sessions leaf.0).call ≡ pending.Commit = subst (λ i. (session_at k.sessions i).call ≡ pending.Commit) session pending_it.call in
      absurd (cc (free, commits))

  pub none_had_changes : AllAgree tr u.node g u.input → has_no_site (plan_at tr_on g) ≡ true → u.wrote ≡ (turn_of place k u.input).wrote → Ended commit_complete
  none_had_changes agree siteless owed = elim agree.last [
    | inl last ↦ settles last.0 last.1 last.2 last.3 siteless owed (λ abort. agree.unaborted (last.0, last.1, last.2, abort))
    | inr leaf ↦ absurd (no_commit_comes leaf)
  ]
