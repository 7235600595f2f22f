-- In a lawful run, where the happenings tell of roots what their nodes keep, they do so of the changes of live branches, and answers of runs are meant.
use Rattle.std.proofs.Common.{◌≡◌, ◌≢◌, ℕ, Bool, true, false, if◌then◌else◌, List, [], ◌∷◌, ◌++◌, map, option_map, Option, Some, None, inl, inr, refl, sym, ap, subst, ◌∙◌, append-nil, subst₂}
use Rattle.std.proofs.lemmas.Bool.{cases_eq}
use Rattle.tran_ids.proofs.ListedLemmas.{item_is}
use Rattle.tran_ids.proofs.NumberedLemmas.{set_or_before}
use Rattle.node_rules.specs.Data.{Answer, BranchId, Live}
use Rattle.node_rules.specs.Words.{same, item_at}
use Rattle.node_rules.specs.NodeState.{NodeState, TurnDraft, live_id, live_at, sets_at, work_at}
use Rattle.node_rules.specs.Turn.{turn_of, start_of, draft_of}
use Rattle.run_rules.specs.Branches.{Dropped, Run, Seen, Trail, seen_id, seen_at, own_of, is_live_at}
use Rattle.run_rules.specs.Data.{Turn, Happening}
use Rattle.run_rules.specs.Data.happenings
use Rattle.run_rules.specs.Each.{AtEach}
use Rattle.run_rules.specs.Facts.{Facts, flat, place_at, node_at, with_boot, kept_after, outcome_at, facts_after, facts_of}
use Rattle.run_rules.specs.Lawful.{MayHappen, History, IsLawfulRun}
use Rattle.run_claims.specs.Meanings.{AnswerIsMeant, RunIsMeant, RunsAreMeant}
use Rattle.run_rules.specs.Runs.{asks, run_by, run_in, answered_by}
use Rattle.run_rules.specs.Trail.{stopped_by, with_begun, trail_after, taken_after, step_back, back_in, runs_back, runs_for, runs_with, savepoints_back, savepoints_set}
use Rattle.run_rules.proofs.AtNodeLemmas.{turn_elsewhere}
use Rattle.run_base_laws.proofs.EventsStandLemmas.{run_stands, ids_name_their_node}
use Rattle.run_base_laws.proofs.OwnLemmas.{all_found}
use Rattle.tree_laws.proofs.PrefixLemmas.{so_far, f_at, one_on}
use Rattle.tree_laws.proofs.TimeLemmas.{Part, keep_on}
use Rattle.tree_trail_laws.specs.OwnLaws.{TracesRoots}
use Rattle.tree_trail_laws.specs.SeenLaws.{TracesOwns, Sees, SeesAll}
use Rattle.tree_trail_laws.proofs.ChildTurnLemmas as kids
use Rattle.tree_trail_laws.proofs.LowerRunLemmas.{stop_still}
use Rattle.tree_trail_laws.proofs.MomentLemmas.{tr_at, trail_one_on, at_moment, by_moment}
use Rattle.tree_trail_laws.proofs.OwnAfterLemmas.{meant_after_turn, work_after_turn}
use Rattle.tree_trail_laws.proofs.OwnElseLemmas.{IsHere, comes_here, own_elsewhere, taken_elsewhere, back_elsewhere, savepoints_elsewhere}
use Rattle.tree_trail_laws.proofs.OwnTurnLemmas as turns
use Rattle.tree_trail_laws.proofs.OwnTurnLemmas.{Owns}
use Rattle.tree_trail_laws.proofs.SeenLemmas.{begun, turned, seen_begun, seen_turned, item_mapped}
use Rattle.tree_trail_laws.proofs.StartLemmas.{started_none, none_made}
use Rattle.tree_laws.proofs.AtTurn.{at_turn}
use Rattle.tree_trail_laws.proofs.AtTrail.{at_trail}
use Rattle.tree_trail_laws.proofs.SeenLemmas.{stopped_me}
use Rattle.tree_trail_laws.specs.RunLaws.{IsTracedWork, TracesWorks, RunsAre}
use Rattle.tree_trail_laws.proofs.RunListLemmas.{own_is}

-- The runs, the savepoints and the step of each live branch are told; so are its changes.
both : (f : Facts) (tr : Trail) → TracesWorks f tr → Owns f tr
both f tr all = record {
  owns = λ n k up l live. (let it = all n k up l live in ap own_of it.1 ∙ own_is it.0.runs it.0.taken (sets_at k.owns l.me) (work_at k l.me).marks.notes it.2.runs);
  works = all;
}

-- ---- a stop leaves what is told of changes and calls

stopped_at : (n : ℕ) (xs : List Seen) (b : BranchId) → item_at seen_id (map (stopped_by n) xs) b ≡ option_map (stopped_by n) (item_at seen_id xs b)
stopped_at n [] b = refl
stopped_at n (s ∷ xs) b = ap (λ c. if same c b then Some (stopped_by n s) else item_at seen_id (map (stopped_by n) xs) b) (stopped_me n s) ∙ by (same s.me b) (stopped_at n xs b)
  where
    by : (q : Bool) → item_at seen_id (map (stopped_by n) xs) b ≡ option_map (stopped_by n) (item_at seen_id xs b)
        → (if q then Some (stopped_by n s) else item_at seen_id (map (stopped_by n) xs) b) ≡ option_map (stopped_by n) (if q then Some s else item_at seen_id xs b)
    by true later = refl
    by false later = later

-- a stopped branch keeps its runs
stopped_work : (k : NodeState) (n : ℕ) (s : Seen) (l : Live) → IsTracedWork k s l → IsTracedWork k (stopped_by n s) l
stopped_work k n s l it = by (is_live_at n s)
  where
    by : (q : Bool) → IsTracedWork k (if q then record s { exit = Some Dropped } else s) l
    by true = record { runs = it.runs; savepoints = it.savepoints; taken = it.taken }
    by false = it

module _ (t : History) (whole : IsLawfulRun t) (roots : AtEach (λ places f tr h. TracesRoots places f tr) t) where
  roots_at : (hs : List Happening) (h : Happening) (more : List Happening) → hs ++ h ∷ more ≡ t.trace → TracesRoots t.places (f_at t hs) (tr_at t hs)
  roots_at hs h more is = at_moment t (λ places f tr h. TracesRoots places f tr) roots hs h more is

  -- ---- a turn

  module _ (hs : List Happening) (u : Turn) (more : List Happening) (is : hs ++ happenings.Turn u ∷ more ≡ t.trace) (now : Owns (f_at t hs) (tr_at t hs)) where
    open at_turn t whole hs u more is use {f as f0, g as f1}
    open at_trail t hs u use {tr as tr0, tr_on as tr1}

    abbrev r0 : TracesRoots t.places f0 tr0
    r0 = roots_at hs (happenings.Turn u) more is

    abbrev may : MayHappen t.places t.commands f0 (happenings.Turn u)
    may = turns.may t whole hs u more is r0 now

    abbrev d : TurnDraft
    d = draft_of (place_at t.places u.node) (turns.may t whole hs u more is r0 now).0 u.input

    here : IsHere u.node u.input
    here = comes_here f0 may.0 u.node u.input u.took may.1.comes

    -- another node
    elsewhere : (n : ℕ) (j : NodeState) → u.node ≢ n → node_at f1 n ≡ Some j → (l : Live) → live_at j l.me ≡ Some l → (s : Seen) × (seen_at tr1 l.me ≡ Some s) × IsTracedWork j s l
    elsewhere n j other up l live =
        let s0 : History = so_far t hs in
        let lawful0 : IsLawfulRun s0 = turns.lawful0 t whole hs u more is r0 now in
        let before : node_at f0 n ≡ Some j = sym (turn_elsewhere t.places t.commands f0 (run_stands s0 lawful0).0.even u n other).0 ∙ up in
        let node : l.me.node ≡ n = all_found (λ y. y.me.node ≡ n) live_id j.lives l.me l (ids_name_their_node s0 lawful0 n j before).lives live in
        let it = now.works n j before l live in
        let me : it.0.me ≡ l.me = item_is seen_id tr0.seen l.me it.0 it.1 in
        let apart : it.0.me.node ≢ u.node = (λ same. other (sym same ∙ (ap (λ (c : BranchId). c.node) me ∙ node))) in
        (turned t.places f0 tr0 u it.0, seen_turned t.places f0 tr0 u l.me it.0 it.1, away it.0 j l apart it.2)
      where
        away : (s : Seen) (j : NodeState) (l : Live) → s.me.node ≢ u.node → IsTracedWork j s l → IsTracedWork j (turned t.places f0 tr0 u s) l
        away s j l apart it =
            let trb : Trail = begun t.places f0 tr0 u in
            let answer : Option Answer = answered_by (outcome_at t.places f0 u) in
            let taken : taken_after u.node s u.input ≡ s.taken = taken_elsewhere u.node s u.input here apart in
            let stays : step_back s.me (back_in trb u answer) ≡ None = back_elsewhere f0 trb u here s answer apart in
            let runs : (turned t.places f0 tr0 u s).runs ≡ s.runs
            = ap (λ o. runs_back o (runs_with (runs_for s (run_in f0 trb u) answer) f0.book (taken_after u.node s u.input) s (run_in f0 trb u))) stays
            ∙ own_elsewhere f0 trb u here f0.book (taken_after u.node s u.input) s answer apart in
            let saves : (turned t.places f0 tr0 u s).savepoints ≡ s.savepoints
            = ap (λ o. savepoints_back o (savepoints_set u.node answer (taken_after u.node s u.input) s u.input)) stays ∙ savepoints_elsewhere u.node answer (taken_after u.node s u.input) s u.input apart in
            record {
              runs = subst₂ (λ rs n. RunsAre rs n (sets_at j.owns l.me) (work_at j l.me).marks.notes) (sym runs) (sym taken) it.runs;
              savepoints = saves ∙ it.savepoints;
              taken = taken ∙ it.taken;
            }

    -- its own node
    own_node : u.cut ≡ false → (l : Live) → live_at d.after l.me ≡ Some l → (s : Seen) × (seen_at tr1 l.me ≡ Some s) × IsTracedWork d.after s l
    own_node uncut l live =
        let it = turns.knows_after t whole hs u more is r0 now uncut l live in
        (turned t.places f0 tr0 u it.seen, seen_begun t.places f0 tr0 u l.me it.seen it.at, work_after_turn t whole hs u more is r0 now uncut l live)

    turn_so : TracesWorks f1 tr1
    turn_so n j up l live = elim (cases_eq u.node n) [
      | inl at ↦ own u.cut refl (subst (λ m. node_at f1 m ≡ Some j) (sym at) up)
      | inr other ↦ elsewhere n j other up l live
    ]
      where
        own : (cut : Bool) → u.cut ≡ cut → node_at f1 u.node ≡ Some j → (s : Seen) × (seen_at tr1 l.me ≡ Some s) × IsTracedWork j s l
        own true cut there =
            let none : node_at f1 u.node ≡ None = kids.here_after t whole hs u more is (turns.tells t whole hs u more is r0 now) ∙ ap (λ c. kept_after c (Some (turn_of (place_at t.places u.node) may.0 u.input))) cut in
            absurd (cc (none, there))
        own false cut there =
            let same : Some d.after ≡ Some j = sym (kids.after_up t whole hs u more is (turns.tells t whole hs u more is r0 now) cut) ∙ there in
            let it : d.after ≡ j = cc in
            subst (λ i. (s : Seen) × (seen_at tr1 l.me ≡ Some s) × IsTracedWork i s l) it (own_node cut l (subst (λ i. live_at i l.me ≡ Some l) (sym it) live))

    pub turn_owns : Owns (f_at t (hs ++ happenings.Turn u ∷ [])) (tr_at t (hs ++ happenings.Turn u ∷ []))
    turn_owns =
        subst (λ f. Owns f (tr_at t (hs ++ happenings.Turn u ∷ []))) (sym (one_on t hs (happenings.Turn u)))
        (subst (Owns f1) (sym (trail_one_on t hs (happenings.Turn u))) (both f1 tr1 turn_so))

    turn_meant : (r : Run) (a : Answer) → run_in f0 (with_begun f0 tr0 u) u ≡ Some r → answered_by (outcome_at t.places f0 u) ≡ Some a → AnswerIsMeant f0 tr0 r a
    unfolding run_in
    turn_meant r a some answer = by u.cut refl
      where
        by : (cut : Bool) → u.cut ≡ cut → AnswerIsMeant f0 tr0 r a
        by true cut = (let none : run_in f0 (with_begun f0 tr0 u) u ≡ None = ap (λ c. if c then None else run_by f0 (with_begun f0 tr0 u) u.node (asks (with_begun f0 tr0 u) u.node u.input)) cut in absurd (cc (none, some)))
        by false cut = meant_after_turn t whole hs u more is r0 now cut r a some answer

  -- ---- other happenings

  module _ (hs : List Happening) (h : Happening) (now : Owns (f_at t hs) (tr_at t hs)) where
    same_owns : (g : Facts) (tr : Trail) → facts_after t.places t.commands (f_at t hs) h ≡ g → trail_after t.places (f_at t hs) (tr_at t hs) h ≡ tr
        → ((n : ℕ) (j : NodeState) → node_at g n ≡ Some j → (l : Live) → live_at j l.me ≡ Some l → node_at (f_at t hs) n ≡ Some j)
        → ((k : NodeState) (l : Live) (s : Seen) → seen_at (tr_at t hs) l.me ≡ Some s → IsTracedWork k s l → (s : Seen) × (seen_at tr l.me ≡ Some s) × IsTracedWork k s l)
        → Owns (f_at t (hs ++ h ∷ [])) (tr_at t (hs ++ h ∷ []))
    same_owns g tr facts trail still told =
        subst (λ f. Owns f (tr_at t (hs ++ h ∷ []))) (sym (one_on t hs h ∙ facts))
        (subst (Owns g) (sym (trail_one_on t hs h ∙ trail)) (both g tr (λ n j up l live. (let it = now.works n j (still n j up l live) l live in told j l it.0 it.1 it.2))))

  owns_on : (hs : List Happening) (h : Happening) (more : List Happening) → hs ++ h ∷ more ≡ t.trace → Owns (f_at t hs) (tr_at t hs) → Owns (f_at t (hs ++ h ∷ [])) (tr_at t (hs ++ h ∷ []))
  unfolding facts_after trail_after start_of
  owns_on hs (happenings.Turn u) more is now = turn_owns hs u more is now
  owns_on hs (happenings.Stopped n) more is now =
      same_owns hs (happenings.Stopped n) now _ _ refl refl (λ m j up l live. stop_still t whole (f_at t hs) n m j up)
      (λ k l s at it. (stopped_by n s, item_mapped seen_id (stopped_by n) (stopped_me n) (tr_at t hs).seen l.me s at, stopped_work k n s l it))
  owns_on hs (happenings.Started n boot) more is now =
      same_owns hs (happenings.Started n boot) now _ _ refl refl
      (λ m j up l live. elim (set_or_before (f_at t hs).nodes n m (Some (start_of (with_boot (f_at t hs) n boot)))) [
        | inl before ↦ sym (ap flat before) ∙ up
        | inr new ↦ absurd (started_none (f_at t hs) n boot m j l new.1 up live)
      ])
      (λ k l s at it. (s, at, it))
  owns_on hs (happenings.Begun c) more is now = same_owns hs (happenings.Begun c) now _ _ refl refl (λ m j up l live. up) (λ k l s at it. (s, at, it))
  owns_on hs (happenings.Cut x y) more is now = same_owns hs (happenings.Cut x y) now _ _ refl refl (λ m j up l live. up) (λ k l s at it. (s, at, it))
  owns_on hs (happenings.Join x y) more is now = same_owns hs (happenings.Join x y) now _ _ refl refl (λ m j up l live. up) (λ k l s at it. (s, at, it))
  owns_on hs (happenings.Lost x) more is now = same_owns hs (happenings.Lost x) now _ _ refl refl (λ m j up l live. up) (λ k l s at it. (s, at, it))

  -- a node that was made keeps no live branch
  first_owns : Owns (f_at t []) (tr_at t [])
  unfolding start_of facts_of
  first_owns = record { owns = λ n k up l live. absurd (none_made t.places n k l up live); works = λ n k up l live. absurd (none_made t.places n k l up live) }

  pub owns_at : (hs : List Happening) → Part t whole hs → Owns (f_at t hs) (tr_at t hs)
  owns_at hs part = keep_on t whole (λ xs. Owns (f_at t xs) (tr_at t xs)) owns_on [] hs part first_owns

  owns_end : Owns (f_at t t.trace) (tr_at t t.trace)
  owns_end = owns_at t.trace (record { rest = []; is = append-nil t.trace })

  meant_at : (hs : List Happening) (h : Happening) (more : List Happening) → hs ++ h ∷ more ≡ t.trace → RunIsMeant t.places (f_at t hs) (tr_at t hs) h
  meant_at hs (happenings.Turn u) more is = turn_meant hs u more is (owns_at hs (record { rest = happenings.Turn u ∷ more; is = is }))
  meant_at hs _ more is = tt

  sees_at : (hs : List Happening) (h : Happening) (more : List Happening) → hs ++ h ∷ more ≡ t.trace → Sees (f_at t hs) (tr_at t hs)
  sees_at hs h more is = record {
    tops = (roots_at hs h more is).tops;
    owns = (owns_at hs (record { rest = h ∷ more; is = is })).owns;
    roots = (roots_at hs h more is).roots;
  }

-- So are the changes at the end of a run,
pub owns_follow : (t : History) → IsLawfulRun t → AtEach (λ places f tr h. TracesRoots places f tr) t → TracesOwns (f_at t t.trace) (tr_at t t.trace)
owns_follow t whole roots = (owns_end t whole roots).owns

-- all that is told of live branches before each happening,
pub sees_follow : (t : History) → IsLawfulRun t → AtEach (λ places f tr h. TracesRoots places f tr) t → SeesAll t
sees_follow t whole roots = by_moment t (λ places f tr h. Sees f tr) (sees_at t whole roots)

-- and each answer of a run is meant.
pub meanings_follow : (t : History) → IsLawfulRun t → AtEach (λ places f tr h. TracesRoots places f tr) t → RunsAreMeant t
meanings_follow t whole roots = by_moment t RunIsMeant (meant_at t whole roots)
