-- Where the happenings tell of live branches what their nodes keep, a decision is made by the commit point site of its tree and covers it.
use Rattle.std.proofs.Common.{◌≡◌, Bool, true, if◌then◌else◌, is_some, slice_get, List, [], ◌∷◌, ◌++◌, Option, Some, None, refl, sym, ap, subst, ◌∙◌}
use Rattle.std.proofs.lemmas.List.{append_assoc}
use Rattle.std.specs.Prelude.{IfSome}
use Rattle.std.specs.List.{AllByRecursion}
use Rattle.std.specs.Option.{option_to_list}
use Rattle.tran_ids.proofs.BranchLemmas.{same_from_equal}
use Rattle.tran_ids.proofs.ListedLemmas.{item_is}
use Rattle.session_tree.specs.Live.{children_of as kept_children}
use Rattle.agreement.specs.Events.{Sealed, Decided, first, exit}
use Rattle.node_rules.specs.Data.{BranchId, Live, RedoRecord, Decided as DecidedRecord}
use Rattle.node_rules.specs.declared.session.PendingCall.TheVariants as pending
use Rattle.node_rules.specs.Data.phases
use Rattle.node_rules.specs.Data.records
use Rattle.node_rules.specs.Data.stmts
use Rattle.node_rules.specs.Inputs.{IsSession}
use Rattle.node_rules.specs.Words.{same}
use Rattle.node_rules.specs.NodeState.{Branch, live_id, live_at, work_at, with_work}
use Rattle.node_rules.specs.Sessions.{session_at}
use Rattle.run_key_laws.specs.ChangedLaws.{changes_at, has_changes as are_some}
use Rattle.run_base_laws.specs.CallLaws.{ComesAtRest}
use Rattle.run_rules.specs.Data.{Turn, Happening}
use Rattle.run_rules.specs.Data.happenings
use Rattle.run_rules.specs.Each.{AtEach}
use Rattle.run_base_laws.specs.EventLaws.{EachEventFrom, TellsAsEvents}
use Rattle.run_base_laws.specs.EventRows.{MayStand}
use Rattle.run_rules.specs.Facts.{Facts, first_facts, records_at, facts_after}
use Rattle.run_rules.specs.Branches.{Seen, Trail, PlannedBranch, no_trail, seen_at, own_at, own_of, children_of, children_at, exit_at, root_at, plan_at}
use Rattle.run_rules.specs.Births.{births_of}
use Rattle.run_rules.specs.Lawful.{MayHappen, MayTurn, History, IsLawfulRun, facts_at}
use Rattle.run_base_laws.specs.NodeLaws.{EachFactFrom}
use Rattle.run_base_laws.specs.RunEvents.{wrote_event, with_event, with_record, events_of}
use Rattle.run_claims.specs.Site.{IsSite, IsCovered, Covers, DecidedBySite, DecisionCovers, RecordIsSo, SiteDecides}
use Rattle.run_rules.specs.Trail.{trail_after, trail_of}
use Rattle.run_rules.specs.Tree.{has_changes, plan, strength_of}
use Rattle.run_rules.proofs.AtNodeLemmas.{turn_here}
use Rattle.run_base_laws.proofs.BirthRunLemmas.{records_name_the_born}
use Rattle.run_key_laws.proofs.ChangedLemmas.{changes_are_of_live}
use Rattle.run_base_laws.proofs.EventsStandLemmas.{run_stands, turns_tell_as_events}
use Rattle.run_base_laws.proofs.LaterLemmas.{turn_added, exit_later}
use Rattle.run_base_laws.proofs.LawfulLemmas.{turn_of_node}
use Rattle.run_rules.proofs.ListLemmas.{all_weaker}
use Rattle.run_base_laws.proofs.RestRunLemmas.{calls_come_at_rest}
use Rattle.run_base_laws.proofs.RootLemmas.{roots_are_of_sessions}
use Rattle.tree_laws.proofs.PrefixLemmas.{so_far, f_at, e_at, one_on, more_on}
use Rattle.tree_laws.specs.DecideLaws.{live_in, InTree, SeesTree, IsCoveredBy, DecidedSo}
use Rattle.tree_laws.proofs.DecideLemmas.{decisions_follow_walks}
use Rattle.tree_laws.proofs.MemberLemmas.{IsIn}
use Rattle.tree_laws.proofs.TimeLemmas.{Part, part_lawful, may_of, fact_at, each_at, born_end}
use Rattle.tree_trail_laws.proofs.FullLemmas.{IsSeenSo, Sees, SeesAll}
use Rattle.tree_trail_laws.proofs.MomentLemmas.{tr_at, trail_one_on, trail_join, trail_keeps, at_moment, by_moment}
use Rattle.tree_trail_laws.proofs.CallLemmas.{call_free, seen_root}
use Rattle.tree_trail_laws.proofs.PlanLemmas.{plan_stays, plan_here}
use Rattle.tree_trail_laws.proofs.RootLemmas.{IsLiveIn, live_there, walk_in, root_in, record_root}
use Rattle.tree_trail_laws.proofs.SealedLemmas.{seals_are_told}
use Rattle.tree_laws.proofs.AtTurn.{at_turn}
use Rattle.tree_trail_laws.proofs.AtTrail.{at_trail}
use Rattle.tree_trail_laws.specs.SeenLaws.{TracesOwns}
use Rattle.tree_trail_laws.proofs.TopFollowLemmas.{tops_at}
use Rattle.tree_trail_laws.proofs.TopFinishLemmas.{told_strength}
use Rattle.tree_trail_laws.proofs.TopTurnLemmas.{strong_tops}
use Rattle.tree_trail_laws.proofs.FirstLemmas.{some_first}

-- ---- what is told of the tree

-- the first of two answers, where the other is the first one there
first_of : {A : Type 0} (o : Option A) (a : A) (q : Bool) → o ≡ None → q ≡ true → first o (if q then Some a else None) ≡ Some a
first_of o a q none here = ap (λ p. first p (if q then Some a else None)) none ∙ ap (λ p. if p then Some a else None) here

module _ (t : History) (whole : IsLawfulRun t) (sees : SeesAll t) where
  -- the changes of live branches are told
  owns : AtEach (λ places f tr h. TracesOwns f tr) t
  owns = by_moment t (λ places f tr h. TracesOwns f tr)
      (λ hs h rest is n k up l live. (let it = (at_moment t (λ places f tr h. Sees f tr) sees hs h rest is).lives n k up l live in ap own_of it.1 ∙ it.2.own))

  module _ (hs : List Happening) (h : Happening) (rest : List Happening) (is : hs ++ h ∷ rest ≡ t.trace) where
    saw : Sees (f_at t hs) (tr_at t hs)
    saw = at_moment t (λ places f tr h. Sees f tr) sees hs h rest is

    seen_live : (b : BranchId) (l : Live) (at : IsLiveIn (f_at t hs) b l) → (s : Seen) × (seen_at (tr_at t hs) b ≡ Some s) × IsSeenSo (tr_at t hs) at.kept l s
    seen_live b l at =
        let me : l.me ≡ b = item_is live_id at.kept.lives b l at.found in
        let it = saw.lives b.node at.kept at.up l (subst (λ c. live_at at.kept c ≡ Some l) (sym me) at.found) in
        (it.0, subst (λ c. seen_at (tr_at t hs) c ≡ Some it.0) me it.1, it.2)

    -- the tree of a root is told as nodes keep it
    pub sees_tree : (r : BranchId) → SeesTree t.places (f_at t hs) (tr_at t hs) r
    sees_tree r = record { children = children; changed = changed; strength = strength }
      where
        part : Part t whole hs
        part = record { rest = h ∷ rest; is = is }

        strength : (c : BranchId) (l : Live) → InTree (f_at t hs) r c → live_in (f_at t hs) c ≡ Some l → strength_of t.places (tr_at t hs) c ≡ l.strength
        strength c l inside live =
            let at : IsLiveIn (f_at t hs) c l = live_there (f_at t hs) c l live in
            let me : l.me ≡ c = item_is live_id at.kept.lives c l at.found in
            let now = (tops_at t whole owns hs part).1 in
            subst (λ d. strength_of t.places (tr_at t hs) d ≡ l.strength) me
            (told_strength t whole owns hs h rest is now.tops (strong_tops t whole hs part now) c.node at.kept at.up l (subst (λ d. live_at at.kept d ≡ Some l) (sym me) at.found))

        children : (c : BranchId) (l : Live) → InTree (f_at t hs) r c → live_in (f_at t hs) c ≡ Some l → children_at (tr_at t hs) c ≡ kept_children l
        children c l inside live = let it = seen_live c l (live_there (f_at t hs) c l live) in ap children_of it.1 ∙ it.2.told.children

        changed : (c : BranchId) (l : Live) → InTree (f_at t hs) r c → live_in (f_at t hs) c ≡ Some l → has_changes (tr_at t hs) c ≡ l.changed
        changed c l inside live =
            let at : IsLiveIn (f_at t hs) c l = live_there (f_at t hs) c l live in
            let it = seen_live c l at in
            let me : l.me ≡ c = item_is live_id at.kept.lives c l at.found in
            let own : own_at (tr_at t hs) c ≡ changes_at at.kept.owns l.me = ap own_of it.1 ∙ it.2.own in
            let marked : l.changed ≡ are_some (changes_at at.kept.owns l.me)
            = (changes_are_of_live (so_far t hs) (part_lawful t whole hs (record { rest = h ∷ rest; is = is })) c.node at.kept at.up).marked c l at.found in
            ap (λ cs. is_some (slice_get cs 0)) own ∙ (some_first (changes_at at.kept.owns l.me) ∙ sym marked)

  -- ---- a decision

  module _ (hs : List Happening) (u : Turn) (rest : List Happening) (is : hs ++ happenings.Turn u ∷ rest ≡ t.trace) (r : DecidedRecord) (wrote : u.wrote ≡ Some (records.Decided r)) where
    open at_turn t whole hs u rest is use {after as hs1, part_after as part1, s_after as s1, lawful_after as lawful1, part as part0, k as k1}
    open at_trail t hs u use {tr_on as tr1}

    -- it has decided then
    not_left : exit (e_at t hs) r.me ≡ None
    not_left =
        let tells : TellsAsEvents (f_at t hs) (e_at t hs) (happenings.Turn u)
        = each_at t.places t.commands TellsAsEvents (first_facts t.places) hs (happenings.Turn u) rest []
        (subst (EachEventFrom TellsAsEvents t.places t.commands (first_facts t.places) []) (sym is) (turns_tell_as_events t whole)) in
        subst (λ w. IfSome w (MayStand (e_at t hs))) wrote tells.0

    decided_now : exit (with_record u (e_at t hs)) r.me ≡ Some (Decided r.scn)
    decided_now =
        subst (λ w. exit (with_event (wrote_event u.node w) (e_at t hs)) r.me ≡ Some (Decided r.scn)) (sym wrote)
        (first_of (exit (e_at t hs) r.me) (Decided r.scn) (same r.me r.me) not_left (same_from_equal r.me r.me refl))

    decided : exit (events_of s1) r.me ≡ Some (Decided r.scn)
    decided =
        subst (λ e. exit e r.me ≡ Some (Decided r.scn)) (sym (more_on t hs (happenings.Turn u)))
        (exit_later r.me (Decided r.scn) (turn_added (f_at t hs) (facts_after t.places t.commands (f_at t hs) (happenings.Turn u)) u (e_at t hs)) decided_now)

    so : DecidedSo s1 r.me
    so = decisions_follow_walks s1 lawful1 r.me r.scn decided

    -- ---- its COMMIT

    abbrev v : Turn
    v = so.turn

    is0 : so.before ++ happenings.Turn v ∷ (so.later ++ rest) ≡ t.trace
    is0 = sym (append_assoc so.before (happenings.Turn v ∷ so.later) rest) ∙ (ap (λ xs. xs ++ rest) so.is ∙ (append_assoc hs (happenings.Turn u ∷ []) rest ∙ is))

    abbrev f0 : Facts
    f0 = f_at t so.before

    abbrev tr0 : Trail
    tr0 = tr_at t so.before

    part_commit : Part t whole so.before
    part_commit = record { rest = happenings.Turn v ∷ (so.later ++ rest); is = is0 }

    lawful0 : IsLawfulRun (so_far t so.before)
    lawful0 = part_lawful t whole so.before part_commit

    may : MayHappen t.places t.commands f0 (happenings.Turn v)
    may = may_of t whole so.before (happenings.Turn v) (so.later ++ rest) is0

    may_k : MayTurn t.places f0 v so.kept
    may_k = turn_of_node t.places f0 v so.kept t.commands may so.up

    free : IsSession so.session × ((session_at so.kept.sessions so.session).call ≡ pending.NoCall)
    free = call_free f0 so.kept v.node v.input v.took so.session (Some (stmts.Commit so.given)) so.call may_k.comes

    top : (s : Seen) × (root_at tr0 v.node so.session ≡ Some s) × (s.me ≡ so.root) × ((l : Live) × (live_at so.kept so.root ≡ Some l)) × (seen_at tr0 so.root ≡ Some s)
    top =
        seen_root tr0 so.kept (root_at tr0 v.node so.session) (session_at so.kept.sessions so.session).root so.root so.has
        ((saw so.before (happenings.Turn v) (so.later ++ rest) is0).roots v.node so.kept so.up so.session free.0 free.1)

    abbrev l : Live
    l = top.3.0

    l_me : l.me ≡ so.root
    l_me = item_is live_id so.kept.lives so.root l top.3.1

    l_found : live_at so.kept l.me ≡ Some l
    l_found = subst (λ c. live_at so.kept c ≡ Some l) (sym l_me) top.3.1

    abbrev x : Branch
    x = record { live = l; work = work_at so.kept l.me }

    working : l.phase ≡ phases.Working
    working =
        let rests : ComesAtRest t.places f0 (happenings.Turn v)
        = fact_at t.places t.commands (ComesAtRest t.places) (first_facts t.places) so.before (happenings.Turn v) (so.later ++ rest)
        (subst (EachFactFrom (ComesAtRest t.places) t.places t.commands (first_facts t.places)) (sym is0) (calls_come_at_rest t whole)) in
        (rests so.kept so.up so.session (Some (stmts.Commit so.given)) so.call x (so.has ∙ ap Some (sym l_me)) (ap (with_work so.kept) l_found)).0

    root_alone : l.parent ≡ None
    root_alone = (roots_are_of_sessions (so_far t so.before) lawful0 v.node so.kept so.up so.session so.root so.has).1 l top.3.1

    unplanned : plan_at tr0 top.0.me ≡ None
    unplanned =
        let it = (saw so.before (happenings.Turn v) (so.later ++ rest) is0).lives v.node so.kept so.up l l_found in
        subst (λ c. plan_at tr0 c ≡ None) (l_me ∙ sym top.2) (it.2.unplanned root_alone working)

    -- its transaction is not READ ONLY
    writer : top.0.read_at ≡ None
    writer =
        let it = (saw so.before (happenings.Turn v) (so.later ++ rest) is0).lives v.node so.kept so.up l l_found in
        let both : Some top.0 ≡ Some it.0 = sym top.4 ∙ subst (λ c. seen_at tr0 c ≡ Some it.0) l_me it.1 in
        let one : top.0 ≡ it.0 = cc in
        ap (λ (s : Seen). s.read_at) one ∙ (it.2.told.read_at ∙ so.writes l top.3.1)

    planned_then : plan_at (trail_after t.places f0 tr0 (happenings.Turn v)) so.root ≡ Some (plan t.places tr0 so.root)
    planned_then =
        subst (λ c. plan_at (trail_after t.places f0 tr0 (happenings.Turn v)) c ≡ Some (plan t.places tr0 c)) top.2
        (plan_here t.places f0 tr0 v so.kept so.up so.session so.given so.call so.accepted top.0 top.1 writer unplanned)

    planned_at_end : plan_at (tr_at t (so.before ++ happenings.Turn v ∷ so.later)) so.root ≡ Some (plan t.places tr0 so.root)
    unfolding trail_of
    planned_at_end =
        subst (λ tr. plan_at tr so.root ≡ Some (plan t.places tr0 so.root)) (sym (trail_join t.places t.commands (first_facts t.places) no_trail so.before (happenings.Turn v ∷ so.later)))
        (trail_keeps t.places t.commands (λ tr. plan_at tr so.root ≡ Some (plan t.places tr0 so.root)) (λ f tr h now. plan_stays t.places f tr h so.root (plan t.places tr0 so.root) now)
        (facts_after t.places t.commands f0 (happenings.Turn v)) (trail_after t.places f0 tr0 (happenings.Turn v)) so.later planned_then)

    planned_now : plan_at tr1 so.root ≡ Some (plan t.places tr0 so.root)
    planned_now =
        subst (λ tr. plan_at tr so.root ≡ Some (plan t.places tr0 so.root)) (trail_one_on t hs (happenings.Turn u))
        (subst (λ xs. plan_at (tr_at t xs) so.root ≡ Some (plan t.places tr0 so.root)) so.is planned_at_end)

    -- ---- its root

    disk : records_at (facts_at s1) u.node ≡ records_at (f_at t hs) u.node ++ records.Decided r ∷ []
    disk =
        ap (λ f. records_at f u.node) (one_on t hs (happenings.Turn u))
        ∙ ((turn_here t.places t.commands (f_at t hs) (run_stands (so_far t hs) (part_lawful t whole hs part0)).0.even u k1 (may_of t whole hs (happenings.Turn u) rest is).1.up).1
        ∙ ap (λ w. records_at (f_at t hs) u.node ++ option_to_list w) wrote)

    inside : IsIn (births_of s1) so.root r.me
    inside =
        let it : IsIn (births_of (so_far t so.before)) so.root r.me
        = walk_in (so_far t so.before) lawful0 so.root so.root r.me so.walk (root_in (so_far t so.before) lawful0 v.node so.session so.kept so.root l so.up so.has top.3.1) in
        (it.0, born_end s1 lawful1 so.before (record { rest = happenings.Turn v ∷ so.later; is = so.is }) it.0 it.1, it.2, it.3)

    same_root : so.root ≡ r.root
    same_root = record_root s1 lawful1 u.node (records_at (f_at t hs) u.node) r so.root disk (records_name_the_born s1 lawful1 u.node) inside

    -- ---- the laws

    planned_for : plan_at tr1 r.root ≡ Some (plan t.places tr0 so.root)
    planned_for = subst (λ c. plan_at tr1 c ≡ Some (plan t.places tr0 so.root)) same_root planned_now

    fits : ((plan t.places tr0 so.root).site ≡ Some r.me) × AllByRecursion (IsCoveredBy s1 r.me) (plan t.places tr0 so.root).tree
    fits = so.planned tr0 (sees_tree so.before (happenings.Turn v) (so.later ++ rest) is0 so.root)

    pub by_site : IsSite tr1 r
    by_site = record { plan = plan t.places tr0 so.root; planned = planned_for; here = fits.0 }

    covered : (y : PlannedBranch) → IsCoveredBy s1 r.me y → IsCovered tr1 r.me y
    covered y is_so other weighs =
        let it = is_so other weighs in
        (it.0, subst (λ tr. exit_at tr y.me ≡ Some (Sealed it.0)) (trail_one_on t hs (happenings.Turn u)) (seals_are_told t whole sees hs1 part1 y.me it.0 it.1))

    pub covers : Covers tr1 r
    covers = subst (λ o. IfSome o (λ p. AllByRecursion (IsCovered tr1 r.me) p.tree)) (sym planned_for) (all_weaker (IsCoveredBy s1 r.me) (IsCovered tr1 r.me) covered (plan t.places tr0 so.root).tree fits.1)

  -- ---- every record

  decides_so : (hs : List Happening) (u : Turn) (rest : List Happening) → hs ++ happenings.Turn u ∷ rest ≡ t.trace → (w : Option RedoRecord) → u.wrote ≡ w
      → IfSome w (DecidedBySite (trail_after t.places (f_at t hs) (tr_at t hs) (happenings.Turn u))) × IfSome w (DecisionCovers (trail_after t.places (f_at t hs) (tr_at t hs) (happenings.Turn u)))
  decides_so hs u rest is None wrote = (tt, tt)
  decides_so hs u rest is (Some (records.Decided r)) wrote = (by_site hs u rest is r wrote, covers hs u rest is r wrote)
  decides_so hs u rest is (Some _) wrote = (tt, tt)

  site_so : (hs : List Happening) (h : Happening) (rest : List Happening) → hs ++ h ∷ rest ≡ t.trace → RecordIsSo DecidedBySite t.places (f_at t hs) (tr_at t hs) h × RecordIsSo DecisionCovers t.places (f_at t hs) (tr_at t hs) h
  site_so hs (happenings.Turn u) rest is = decides_so hs u rest is u.wrote refl
  site_so hs _ rest is = (tt, tt)

  pub site_decides : SiteDecides t
  site_decides = by_moment t (RecordIsSo DecidedBySite) (λ hs h rest is. (site_so hs h rest is).0)

  pub decisions_cover : AtEach (RecordIsSo DecisionCovers) t
  decisions_cover = by_moment t (RecordIsSo DecisionCovers) (λ hs h rest is. (site_so hs h rest is).1)
