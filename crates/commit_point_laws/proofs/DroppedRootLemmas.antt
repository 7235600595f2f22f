-- The root of an undisturbed COMMIT that was dropped has found no changes: no rollback came, no child said Abort, and its
-- session neither rolled back nor gave up.
use Rattle.std.proofs.Common.{◌≡◌, ◌≢◌, ℕ, ◌||◌, Bool, true, false, if◌then◌else◌, List, [], ◌∷◌, ◌++◌, map, Option, Some, None, inl, inr, refl, sym, ap, subst, ◌∙◌, append-nil, append_assoc}
use Rattle.tran_ids.proofs.ListedLemmas.{item_is}
use Rattle.agreement.specs.Events as exits
use Rattle.agreement.specs.Events.{Event, Exit, Dropped, Quiet, first, only_at, exit}
use Rattle.agreement.proofs.EventLemmas.{first_is, only_at_is, only_at_same}
use Rattle.node_rules.specs.Data.{BranchId, Live, Place, RedoRecord, Sealed, Decided, Input}
use Rattle.node_rules.specs.Data.inputs
use Rattle.node_rules.specs.Data.kinds
use Rattle.node_rules.specs.Data.records
use Rattle.node_rules.specs.Data.stmts
use Rattle.node_rules.specs.Inputs.{Came, IsCall}
use Rattle.node_rules.specs.NodeState.{NodeState, live_id, live_at, Branch, branch_at, with_work, work_at}
use Rattle.node_rules.specs.Turn.{turn_of}
use Rattle.node_rules.specs.Words.{same, item_at}
use Rattle.run_rules.specs.Births.{Born, births_of}
use Rattle.run_base_laws.specs.BirthLaws.{Began, IsChild, LiveIs, GoesSo}
use Rattle.run_rules.specs.Branches.{is_among}
use Rattle.run_rules.specs.Data.{Turn, Happening}
use Rattle.run_rules.specs.Data.happenings
use Rattle.run_base_laws.specs.EventLaws.{EachEventFrom}
use Rattle.run_rules.specs.Facts.{Facts, first_facts, place_at, node_at, kept_after, facts_after}
use Rattle.run_base_laws.specs.InTurnLaws.{post_of, said_in}
use Rattle.run_rules.specs.Lawful.{IsOwed, MayHappen, History, IsLawfulRun, facts_at}
use Rattle.run_base_laws.specs.RunEvents.{wrote_event, with_event, with_record, lives_at, events_after, events_of}
use Rattle.run_branch_laws.specs.WalkLaws.{is_below, was_sent}
use Rattle.run_rules.proofs.AtNodeLemmas.{turn_here}
use Rattle.run_base_laws.proofs.BirthRunLemmas.{messages_are_of_neighbors, nodes_name_the_born}
use Rattle.run_base_laws.proofs.BirthsStandLemmas.{came_so}
use Rattle.run_base_laws.proofs.EventsStandLemmas.{run_stands, nodes_are_as_events, ids_name_their_node}
use Rattle.run_base_laws.proofs.LaterLemmas.{exit_made, exit_later, later_exit, turn_added}
use Rattle.run_base_laws.proofs.OwnLemmas.{all_found}
use Rattle.run_base_laws.proofs.RootLemmas.{roots_are_of_sessions}
use Rattle.run_base_laws.proofs.SaidPostLemmas.{posts_of, said_after}
use Rattle.tree_laws.proofs.AskLemmas.{sent_new}
use Rattle.tree_laws.proofs.ForestLemmas as trees
use Rattle.tree_laws.proofs.ForestRunLemmas.{run_known}
use Rattle.tree_laws.proofs.PrefixLemmas.{so_far, f_at, e_at, one_on, more_on}
use Rattle.tree_laws.proofs.FateLemmas.{among_found}
use Rattle.tree_laws.proofs.TimeLemmas.{Part, part_on, part_of, part_lawful, may_of, each_at, exit_end, sent_end, born_end, fact_at}
use Rattle.run_claims.specs.Undisturbed.{Commit, Undisturbed, is_create}
use Rattle.commit_laws.specs.WaitLaws.{AllCame}
use Rattle.commit_point_laws.specs.RootLaws.{FoundNothing, is_rollback, RootReason, Seals, Decides, Finishes, Hears_abort, Gets_rollback, Rolls_back, Ends_reading, Gives_up, TurnsLeaveRoots}
use Rattle.commit_point_laws.proofs.CalmLemmas.{IsPlain, plain, took_message, never_disturbed, none_rolled}
use Rattle.commit_point_laws.proofs.LeaveLemmas.{told_before_leaving, asked_before_leaving}
use Rattle.commit_point_laws.proofs.MomentLemmas.{LeftThen, left_then}
use Rattle.commit_point_laws.proofs.RootLemmas.{roots_have_reasons}
use Rattle.run_base_laws.specs.CallLaws.{ComesAtRest}
use Rattle.run_base_laws.specs.NodeLaws.{EachFactFrom}
use Rattle.std.specs.Prelude.{IfSome}
use Rattle.run_base_laws.proofs.RestRunLemmas.{NodeRests, calls_come_at_rest, run_roots}
use Rattle.commit_laws.proofs.ServedLemmas.{ServedAt}
use Rattle.tree_laws.proofs.DecideLemmas.{cancel}
use Rattle.run_base_laws.proofs.RestLemmas.{live_root}
use Rattle.commit_laws.proofs.RootLemmas.{served_later}
use Rattle.node_rules.specs.Sessions.{session_at}

-- ---- exits

-- what is not there is nothing
not_both : (o : Option ℕ) (n : ℕ) → o ≡ None → o ≡ Some n → ⊥
not_both None n none some = absurd cc
not_both (Some m) n none some = absurd cc

-- no record drops a branch
none_drops : (t : List Event) (b : BranchId) → first (exit t b) None ≡ Some Dropped → exit t b ≡ Some Dropped
none_drops t b is = elim (first_is (exit t b) None Dropped is) [ inl old ↦ old | inr new ↦ (let no : None ≡ Some Dropped = new.1 in absurd cc) ]

wrote_drop : (n : ℕ) (t : List Event) (w : Option RedoRecord) (b : BranchId) → exit (with_event (wrote_event n w) t) b ≡ Some Dropped → exit t b ≡ Some Dropped
wrote_drop n t None b is = is
wrote_drop n t (Some (records.Sealed r)) b is =
    elim (first_is (exit t b) (only_at r.me b (exits.Sealed r.scn)) Dropped is) [ inl old ↦ old | inr new ↦ (let at = only_at_is r.me b (exits.Sealed r.scn) Dropped new.1 in absurd (cc (at.1))) ]
wrote_drop n t (Some (records.Decided r)) b is =
    elim (first_is (exit t b) (only_at r.me b (exits.Decided r.scn)) Dropped is) [ inl old ↦ old | inr new ↦ (let at = only_at_is r.me b (exits.Decided r.scn) Dropped new.1 in absurd (cc (at.1))) ]
wrote_drop n t (Some (records.Ended c d)) b is = none_drops t b is
wrote_drop n t (Some (records.Forced c d given)) b is = none_drops t b is
wrote_drop n t (Some (records.Met c d mixed)) b is = none_drops t b is
wrote_drop n t (Some (records.Forgot c)) b is = none_drops t b is
wrote_drop n t (Some (records.Table table)) b is = none_drops t b is
wrote_drop n t (Some _) b is = is

-- the exit of a branch whose seal or decision is written
first_new : (o : Option Exit) (z : Option Exit) → o ≡ None → first o z ≡ z
first_new None z is = refl
first_new (Some x) z is = absurd cc

not_among : (ls : List Live) (b : BranchId) → is_among b (map live_id ls) ≡ false → item_at live_id ls b ≡ None
not_among [] b is = refl
not_among (x ∷ ls) b is = by (same x.me b) is (not_among ls b)
  where
    by : (q : Bool) → (q || is_among b (map live_id ls)) ≡ false → (is_among b (map live_id ls) ≡ false → item_at live_id ls b ≡ None) → (if q then Some x else item_at live_id ls b) ≡ None
    by true none rest = absurd cc
    by false none rest = rest none

module _ (t : History) (whole : IsLawfulRun t) (c : Commit t.places t.commands t.trace) (u : Undisturbed t.places t.commands t.trace c) (all : AllCame t c.root) where
  abbrev b : BranchId
  b = c.root

  abbrev bs : List Born
  bs = births_of t

  pub part0 : Part t whole c.before
  part0 = part_of t whole c.before (happenings.Turn c.call) c.during c.is

  lawful0 : IsLawfulRun (so_far t c.before)
  lawful0 = part_lawful t whole c.before part0

  me : c.live.me ≡ b
  me = item_is live_id c.kept.lives b c.live c.there

  found : live_at c.kept c.live.me ≡ Some c.live
  found = subst (λ i. live_at c.kept i ≡ Some c.live) (sym me) c.there

  pub placed : LiveIs (Began (births_of (so_far t c.before))) c.live
  placed = all_found (LiveIs (Began (births_of (so_far t c.before)))) live_id c.kept.lives c.live.me c.live (nodes_name_the_born (so_far t c.before) lawful0 c.call.node c.kept c.up).0 found

  -- the root as it began
  abbrev pub root_born : Born
  root_born = placed.born

  pub root_began : Began bs root_born
  root_began = born_end t whole c.before part0 placed.born placed.began

  pub root_me : root_born.me ≡ b
  root_me = placed.is_me ∙ me

  pub root_top : root_born.parent ≡ None
  root_top = placed.is_parent ∙ (roots_are_of_sessions (so_far t c.before) lawful0 c.call.node c.kept c.up c.session b c.of).1 c.live c.there

  pub root_of : root_born.root ≡ b
  root_of = (trees.stands_so bs (said_in (facts_at t)) (run_known t whole) root_born None root_began root_top).0 ∙ root_me

  pub none_before : exit (e_at t c.before) b ≡ None
  none_before =
      subst (λ i. exit (e_at t c.before) i ≡ None) me
      (all_found (λ (l : Live). exit (e_at t c.before) l.me ≡ None) live_id c.kept.lives c.live.me c.live (nodes_are_as_events (so_far t c.before) lawful0 c.call.node c.kept c.up).0 found)

  module _ (it : LeftThen t whole c.before b Dropped) (w : Turn) (turn : it.happening ≡ happenings.Turn w) (cut : w.cut ≡ false) (comes : IsPlain t whole c u it.happening) (comes_is : comes.turn ≡ w) where
    abbrev pub hs : List Happening
    hs = c.before ++ it.since

    abbrev pub h : Happening
    h = happenings.Turn w

    pub is : hs ++ h ∷ it.later ≡ t.trace
    is = subst (λ y. hs ++ y ∷ it.later ≡ t.trace) turn it.is

    abbrev f : Facts
    f = f_at t hs

    abbrev g : Facts
    g = facts_after t.places t.commands f h

    abbrev e : List Event
    e = e_at t hs

    abbrev after : List Happening
    after = hs ++ h ∷ []

    part : Part t whole hs
    part = part_of t whole hs h it.later is

    part_z : Part t whole after
    part_z = part_on t whole hs h it.later is

    lawful : IsLawfulRun (so_far t hs)
    lawful = part_lawful t whole hs part

    abbrev pub may : MayHappen t.places t.commands f h
    may = may_of t whole hs h it.later is

    abbrev pub k : NodeState
    k = may.0

    abbrev pub p : Place
    p = place_at t.places w.node

    left : exit (events_after t.places t.commands f h e) b ≡ Some Dropped
    left = subst (λ y. exit (events_after t.places t.commands f y e) b ≡ Some Dropped) turn it.left

    left_after : exit (e_at t after) b ≢ None
    left_after still = (let gone : exit (e_at t after) b ≡ Some Dropped = subst (λ x. exit x b ≡ Some Dropped) (sym (more_on t hs h)) left in absurd (cc (gone, still)))

    -- it was live at the turn's node, and is not afterwards
    leaves : (is_among b (lives_at (node_at f w.node)) ≡ true) × (is_among b (lives_at (node_at g w.node)) ≡ false)
    leaves = elim (exit_made b Dropped (turn_added f g w e) left) [
      | inl old ↦ (let older : exit e b ≡ Some Dropped = wrote_drop w.node e w.wrote b old in let none = it.none in absurd (cc (older, none)))
      | inr made ↦ later_exit b made.0 Dropped made.1 made.2
    ]

    pub was : (l : Live) × (live_at k b ≡ Some l)
    was = among_found k.lives b (subst (λ o. is_among b (lives_at o) ≡ true) may.1.up leaves.0)

    abbrev pub l : Live
    l = was.0

    left_kept : node_at g w.node ≡ Some (turn_of p k w.input).after
    left_kept = (turn_here t.places t.commands f (run_stands (so_far t hs) lawful).0.even w k may.1.up).0 ∙ ap (λ q. kept_after q (Some (turn_of p k w.input))) cut

    pub gone : live_at (turn_of p k w.input).after b ≡ None
    gone = not_among (turn_of p k w.input).after.lives b (subst (λ o. is_among b (lives_at o) ≡ false) left_kept leaves.1)

    l_me : l.me ≡ b
    l_me = item_is live_id k.lives b l was.1

    its : LiveIs (Began (births_of (so_far t hs))) l
    its = all_found (LiveIs (Began (births_of (so_far t hs)))) live_id k.lives b l (nodes_name_the_born (so_far t hs) lawful w.node k may.1.up).0 was.1

    l_born : its.born ≡ root_born
    l_born = trees.same_born bs (said_in (facts_at t)) (run_known t whole) its.born root_born (born_end t whole hs part its.born its.began) root_began (its.is_me ∙ (l_me ∙ sym root_me))

    pub top : l.parent ≡ None
    top = sym its.is_parent ∙ (ap (λ (x : Born). x.parent) l_born ∙ root_top)

    reason : RootReason (said_in f) e w.input b l.read_at (turn_of p k w.input).wrote (map post_of (turn_of p k w.input).sent)
    reason =
        each_at t.places t.commands (TurnsLeaveRoots t.places) (first_facts t.places) hs h it.later []
        (subst (EachEventFrom (TurnsLeaveRoots t.places) t.places t.commands (first_facts t.places) []) (sym is) (roots_have_reasons t whole)) k may.1.up b l was.1 top gone

    pub owed : IsOwed p k w.input w.wrote w.sent false
    owed = subst (IsOwed p k w.input w.wrote w.sent) cut may.1.owed

    -- the exit that a record tells is no drop
    written : (z : Exit) (v : Option Event) → wrote_event w.node w.wrote ≡ v → exit (with_event v e) b ≡ Some z → z ≡ Dropped
    written z v it_is at =
        let here : exit (with_record w e) b ≡ Some z = subst (λ o. exit (with_event o e) b ≡ Some z) (sym it_is) at in
        let later : exit (events_after t.places t.commands f h e) b ≡ Some z = exit_later b z (turn_added f g w e) here in
        let both : Some z ≡ Some Dropped = sym later ∙ left in
        cc

    pub seal_not : (r : Sealed) → w.wrote ≡ Some (records.Sealed r) → r.me ≡ b → ⊥
    seal_not r wrote is_b =
        let at : exit (with_event (wrote_event w.node (Some (records.Sealed r))) e) b ≡ Some (exits.Sealed r.scn) = first_new (exit e b) (only_at r.me b (exits.Sealed r.scn)) it.none ∙ only_at_same r.me b (exits.Sealed r.scn) is_b in
        (let no : exits.Sealed r.scn ≡ Dropped = written (exits.Sealed r.scn) (wrote_event w.node (Some (records.Sealed r))) (ap (wrote_event w.node) wrote) at in cc)

    pub decision_not : (r : Decided) → w.wrote ≡ Some (records.Decided r) → r.me ≡ b → ⊥
    decision_not r wrote is_b =
        let at : exit (with_event (wrote_event w.node (Some (records.Decided r))) e) b ≡ Some (exits.Decided r.scn) = first_new (exit e b) (only_at r.me b (exits.Decided r.scn)) it.none ∙ only_at_same r.me b (exits.Decided r.scn) is_b in
        (let no : exits.Decided r.scn ≡ Dropped = written (exits.Decided r.scn) (wrote_event w.node (Some (records.Decided r))) (ap (wrote_event w.node) wrote) at in cc)

    -- it found no changes, and so it is at the end
    found_end : FoundNothing (said_in f) e b → FoundNothing (said_in (facts_at t)) (events_of t) b
    found_end now = record {
      quiet = λ x asked. exit_end t whole hs part x Quiet (now.quiet x (asked_before_leaving t whole hs h it.later is b x left_after asked));
      off = λ x. by x (was_sent is_below (said_in (facts_at t)) b x) refl;
    }
      where
        by : (x : BranchId) (q : Bool) → was_sent is_below (said_in (facts_at t)) b x ≡ q → q ≡ false
        by x false told = refl
        by x true told = (let yes : was_sent is_below (said_in f) b x ≡ true = told_before_leaving t whole hs h it.later is b x left_after told in let no = now.off x in absurd (cc (yes, no)))

    -- no child said Abort
    abort_not : (from : BranchId) → Came w.input from b kinds.Abort → was_sent is_rollback (map post_of (turn_of p k w.input).sent) b from ≡ true → ⊥
    abort_not from came told =
        let child : IsChild (Began (births_of (so_far t hs))) from b = came_so (GoesSo (Began (births_of (so_far t hs)))) f (messages_are_of_neighbors (so_far t hs) lawful) k w.node w.input w.took may.1.comes from b kinds.Abort came in
        let began : Began bs child.0 = born_end t whole hs part child.0 child.1 in
        let above = trees.below_of bs (said_in (facts_at t)) (run_known t whole) child.0 b began child.3 in
        let one : above.up ≡ root_born = trees.same_born bs (said_in (facts_at t)) (run_known t whole) above.up root_born above.began root_began (above.is_me ∙ sym root_me) in
        let of : child.0.root ≡ b = sym above.is_root ∙ (ap (λ (x : Born). x.root) one ∙ root_of) in
        let posts : was_sent is_rollback (posts_of h) b from ≡ true = subst (λ ms. was_sent is_rollback (map post_of ms) b from ≡ true) (sym (sent_owed)) told in
        let now : was_sent is_rollback (said_in (f_at t after)) b from ≡ true
        = subst (λ xs. was_sent is_rollback xs b from ≡ true) (sym (ap said_in (one_on t hs h) ∙ said_after t.places t.commands f h)) (sent_new is_rollback (said_in f) (posts_of h) b from posts) in
        let end : was_sent is_rollback (said_in (facts_at t)) b from ≡ true = sent_end t whole after part_z is_rollback b from now in
        none_rolled t whole c u all root_born child.0 root_began root_of began of
        (subst (λ i. was_sent is_rollback (said_in (facts_at t)) i child.0.me ≡ true) (sym root_me) (subst (λ i. was_sent is_rollback (said_in (facts_at t)) b i ≡ true) (sym child.2) end))
      where
        sent_owed : w.sent ≡ (turn_of p k w.input).sent
        sent_owed = owed.1

    rollback_not : (from : BranchId) → Came w.input from b kinds.Rollback → ⊥
    rollback_not from came = never_disturbed t whole c u hs w it.later is root_born root_began root_of from kinds.Rollback refl (subst (λ i. Came w.input from i kinds.Rollback) (sym root_me) came)

    -- the input is the COMMIT or a message
    pub input_is : (input : Input) → w.input ≡ input → ((n : ℕ) (comment : Option (List ℕ)) → inputs.Call n (Some (stmts.Commit comment)) ≢ input) → ((m : _) → inputs.Message m ≢ input) → is_create input ≡ false → ⊥
    input_is input is_it no_call no_message no_create = elim (comes.comes) [
      | inl call ↦ no_call call.0 call.1 (sym (subst (λ (y : Turn). IsCall y.input call.0 (stmts.Commit call.1)) comes_is call.2) ∙ is_it)
      | inr (inl took) ↦ (let came = took_message f k w.node w.input w.took took.0 (subst (λ (y : Turn). y.took ≡ Some took.0) comes_is took.1) may.1.comes in no_message came.0 (sym came.1 ∙ is_it))
      | inr (inr create) ↦ (let yes : is_create input ≡ true = ap is_create (sym is_it) ∙ subst (λ (y : Turn). is_create y.input ≡ true) comes_is create in absurd (cc (yes, no_create)))
    ]

    -- ---- its transaction is not READ ONLY

    -- the rest of the run, from the turn of the COMMIT on
    rest_is : it.since ++ h ∷ it.later ≡ happenings.Turn c.call ∷ c.during
    rest_is = cancel c.before (it.since ++ h ∷ it.later) (happenings.Turn c.call ∷ c.during) (sym (append_assoc c.before it.since (h ∷ it.later)) ∙ (is ∙ sym c.is))

    mine : live_at k l.me ≡ Some l
    mine = subst (λ i. live_at k i ≡ Some l) (sym l_me) was.1

    -- in that turn it is as it was
    reads_first : it.since ≡ [] → (scn : ℕ) → l.read_at ≡ Some scn → ⊥
    reads_first none scn reads =
        let both : h ∷ it.later ≡ happenings.Turn c.call ∷ c.during = ap (λ xs. xs ++ h ∷ it.later) (sym none) ∙ rest_is in
        let same : w ≡ c.call = cc in
        let at : hs ≡ c.before = ap (λ xs. c.before ++ xs) none ∙ append-nil c.before in
        let up : node_at (f_at t c.before) c.call.node ≡ Some k = subst (λ xs. node_at (f_at t xs) c.call.node ≡ Some k) at (subst (λ (z : Turn). node_at f z.node ≡ Some k) same may.1.up) in
        let one : Some k ≡ Some c.kept = sym up ∙ c.up in
        let kept : k ≡ c.kept = cc in
        let there : live_at c.kept b ≡ Some l = subst (λ (j : NodeState). live_at j b ≡ Some l) kept was.1 in
        let two : Some l ≡ Some c.live = sym there ∙ c.there in
        let live : l ≡ c.live = cc in
        let none_read : l.read_at ≡ None = ap (λ (x : Live). x.read_at) live ∙ c.writer in
        not_both l.read_at scn none_read reads

    -- later it is not working, and so no COMMIT comes to it
    calls_later : (y : Happening) (ys : List Happening) → it.since ≡ y ∷ ys → (comment : Option (List ℕ)) → IsCall w.input b.session (stmts.Commit comment) → ⊥
    calls_later y ys more comment call =
        let both : y ∷ (ys ++ h ∷ it.later) ≡ happenings.Turn c.call ∷ c.during = ap (λ xs. xs ++ h ∷ it.later) (sym more) ∙ rest_is in
        let first : y ≡ happenings.Turn c.call = cc in
        let at : (c.before ++ happenings.Turn c.call ∷ []) ++ ys ≡ hs
        = append_assoc c.before (happenings.Turn c.call ∷ []) ys ∙ (ap (λ z. c.before ++ z ∷ ys) (sym first) ∙ ap (λ xs. c.before ++ xs) (sym more)) in
        let served : ServedAt t whole b None f
        = subst (λ xs. ServedAt t whole b None (f_at t xs)) at (served_later t whole c u ys (h ∷ it.later) (ap (λ xs. xs ++ h ∷ it.later) at ∙ is)) in
        let node : l.me.node ≡ w.node = all_found (λ (x : Live). x.me.node ≡ w.node) live_id k.lives l.me l (ids_name_their_node (so_far t hs) lawful w.node k may.1.up).lives mine in
        let up : node_at f b.node ≡ Some k = subst (λ i. node_at f i ≡ Some k) (sym node ∙ ap (λ (i : BranchId). i.node) l_me) may.1.up in
        let rests : ComesAtRest t.places f h
        = fact_at t.places t.commands (ComesAtRest t.places) (first_facts t.places) hs h it.later
        (subst (EachFactFrom (ComesAtRest t.places) t.places t.commands (first_facts t.places)) (sym is) (calls_come_at_rest t whole)) in
        let roots : NodeRests k = subst (λ o. IfSome o NodeRests) may.1.up (run_roots (so_far t hs) lawful w.node) in
        let x : Branch = record { live = l; work = work_at k l.me } in
        let found : branch_at k l.me ≡ Some x = ap (with_work k) mine in
        let root : (session_at k.sessions l.me.session).root ≡ Some l.me = (live_root k roots.1 b l was.1 top).root in
        let its_call : IsCall w.input l.me.session (stmts.Commit comment) = subst (λ (i : BranchId). IsCall w.input i.session (stmts.Commit comment)) (sym l_me) call in
        (served k l up was.1).busy (rests k may.1.up l.me.session (Some (stmts.Commit comment)) its_call x root found).0

    pub reads_not : (comment : Option (List ℕ)) (scn : ℕ) → IsCall w.input b.session (stmts.Commit comment) → l.read_at ≡ Some scn → ⊥
    reads_not comment scn call reads = by it.since refl
      where
        by : (since : List Happening) → it.since ≡ since → ⊥
        by [] none = reads_first none scn reads
        by (y ∷ ys) more = calls_later y ys more comment call

    by_reason : RootReason (said_in f) e w.input b l.read_at (turn_of p k w.input).wrote (map post_of (turn_of p k w.input).sent) → FoundNothing (said_in (facts_at t)) (events_of t) b
    by_reason (Seals r wrote is_b) = absurd (seal_not r (owed.0 ∙ wrote) is_b)
    by_reason (Decides r wrote is_b) = absurd (decision_not r (owed.0 ∙ wrote) is_b)
    by_reason (Finishes now) = found_end now
    by_reason (Hears_abort from came told) = absurd (abort_not from came told)
    by_reason (Gets_rollback from came) = absurd (rollback_not from came)
    by_reason (Rolls_back n call) = absurd (input_is (inputs.Call n (Some stmts.Rollback)) call (λ m comment no. absurd cc) (λ m no. absurd cc) refl)
    by_reason (Ends_reading comment scn call reads) = absurd (reads_not comment scn call reads)
    by_reason (Gives_up n gives) = absurd (input_is (inputs.GiveUp n) gives (λ m comment no. absurd cc) (λ m no. absurd cc) refl)

    found_so : FoundNothing (said_in (facts_at t)) (events_of t) b
    found_so = by_reason reason

  pub root_found : exit (events_of t) b ≡ Some Dropped → FoundNothing (said_in (facts_at t)) (events_of t) b
  root_found dropped =
      let it : LeftThen t whole c.before b Dropped = left_then t whole c.before part0 b none_before Dropped dropped in
      let is : IsPlain t whole c u it.happening = plain t whole c u it.since it.happening it.later it.is in
      found_so it is.turn is.is is.uncut is refl
