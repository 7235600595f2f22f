-- What is told of the runs, the savepoints and the step of each live branch after a call within a transaction, or BACK, is what its node keeps, where no statement ran.
use Rattle.std.proofs.Common.{◌≡◌, ◌≢◌, ℕ, ◌==◌, ◌&&◌, ◌⊎◌, ◌+◌, ◌-◌, not, Bool, true, false, if◌then◌else◌, List, ◌∷◌, ◌++◌, filter, length, take, nat_le, is_none, Option, Some, None, inl, inr, refl, sym, ap, subst, ◌∙◌}
use Rattle.std.specs.Prelude.{IfSome, nat_lt}
use Rattle.std.proofs.lemmas.Bool.{eq-eqb, eqb-true, and_left, and_right}
use Rattle.tran_ids.proofs.BranchLemmas.{equal_from_same, same_from_equal}
use Rattle.tran_ids.proofs.ListedLemmas.{item_is, put_found, put_leaves}
use Rattle.node_rules.specs.Data.{Answer, BranchId, Live, Stmt, Input, Kind, ChangeSet}
use Rattle.node_rules.specs.declared.session.Session.{Session}
use Rattle.node_rules.specs.declared.work.Work.{Work}
use Rattle.node_rules.specs.Data.inputs
use Rattle.node_rules.specs.Data.kinds
use Rattle.node_rules.specs.Data.stmts
use Rattle.node_rules.specs.Data.tasks
use Rattle.node_rules.specs.Words.{same, item_at, put_item, is_item_of}
use Rattle.node_rules.specs.Inputs.{Came, IsCall, IsSession}
use Rattle.node_rules.specs.NodeState.{NodeState, TurnDraft, Branch, live_id, work_id, live_at, with_work, work_or, work_at, sets_at}
use Rattle.node_rules.specs.Sessions.{session_at}
use Rattle.node_rules.specs.Marks.{step_of, sets_behind}
use Rattle.savepoints.specs.Marks.{notes_until}
use Rattle.node_rules.specs.Calls.{takes_call}
use Rattle.node_rules.specs.Client.{new_root, begun, begun_by, counted, root_by, root_at, marked, statement_call, read_only_by}
use Rattle.node_rules.specs.Turn.{turn_of, heard, draft_of, draft_at, output_of}
use Rattle.node_rules.proofs.LiveLemmas.{work_is}
use Rattle.node_rules.proofs.StandLemmas.{live_so}
use Rattle.node_rules.proofs.Steps.{HasRoot, IsOfRows, IsCounted}
use Rattle.run_rules.specs.Branches.{Ran, Seen, seen_id, seen_at, is_live, is_live_at, is_root_of, root_at as seen_root_at}
use Rattle.run_rules.specs.Data.{Turn, Happening}
use Rattle.run_rules.specs.Data.happenings
use Rattle.run_rules.specs.Facts.{node_at, outcome_at, served}
use Rattle.run_rules.specs.Lawful.{MayHappen, History, IsLawfulRun, facts_at}
use Rattle.run_rules.specs.Runs.{run_in, answered_by, is_accepted, is_refused, is_counted, goes_back, back_branch, back_of, back_root, step_of_savepoint}
use Rattle.run_rules.specs.Trail.{runs_for, runs_with, back_in, taken_after, savepoints_set, step_back, runs_back, savepoints_back, with_savepoint}
use Rattle.run_base_laws.proofs.BeginLemmas.{MayBegin}
use Rattle.run_base_laws.proofs.EventsStandLemmas.{ids_name_their_node}
use Rattle.run_base_laws.proofs.OwnLemmas.{all_found}
use Rattle.run_base_laws.proofs.RestLemmas.{live_root}
use Rattle.run_base_laws.proofs.RestRunLemmas.{NodeRests, heard_rests, run_roots}
use Rattle.run_base_laws.proofs.RootLemmas.{counted_session, root_alone}
use Rattle.tree_laws.proofs.AtTurn.{at_turn}
use Rattle.tree_laws.proofs.PrefixLemmas.{f_at, one_on}
use Rattle.tree_trail_laws.specs.OwnLaws.{TracesRoots}
use Rattle.tree_trail_laws.specs.RunLaws.{IsTracedWork, RunsAre, steps_of_sets}
use Rattle.tree_trail_laws.proofs.AtTrail.{at_trail}
use Rattle.tree_trail_laws.proofs.CallLemmas.{seen_root}
use Rattle.tree_trail_laws.proofs.ChildTurnLemmas as kids
use Rattle.tree_trail_laws.proofs.MomentLemmas.{tr_at}
use Rattle.tree_trail_laws.proofs.OwnAskLemmas.{none_asked, none_runs}
use Rattle.tree_trail_laws.proofs.OwnCallLemmas.{last_of, found_calls}
use Rattle.tree_trail_laws.proofs.OwnKnowLemmas.{Knows, own_unrun, own_refused}
use Rattle.tree_trail_laws.proofs.OwnLiveLemmas.{NewRoot, lives_on, new_is}
use Rattle.tree_trail_laws.proofs.OwnStepLemmas.{HasRun, SameWork, BringsNone, called_none, found_work, is_plain, is_way_back}
use Rattle.tree_trail_laws.proofs.OwnTurnLemmas as turns
use Rattle.tree_trail_laws.proofs.OwnTurnLemmas.{Owns, taken_same}
use Rattle.tree_trail_laws.proofs.PlanLemmas.{find_more}
use Rattle.tree_trail_laws.proofs.RunListLemmas as lists
use Rattle.tree_trail_laws.proofs.RunListLemmas.{noted_alike, runs_higher}
use Rattle.tree_trail_laws.proofs.SeenLemmas.{turned}
use Rattle.tree_trail_laws.proofs.SpecialTurnLemmas.{Counting, NewCounting, counted_counts, begun_counts, begun_new, only_begun, only_new, begun_fits, Unmoved, answer_of, RowsTurn, rows_turn, read_only_turn, SavepointTurn, No_root, Not_set, Is_set, savepoint_turn, WentBack, BackTurn, Not_back, Is_back, back_turn, WayBack, Not_live, Not_new, Is_new, way_back_turn}

module _ (t : History) (whole : IsLawfulRun t) where
  module _ (hs : List Happening) (u : Turn) (more : List Happening) (is : hs ++ happenings.Turn u ∷ more ≡ t.trace) (roots : TracesRoots t.places (f_at t hs) (tr_at t hs)) (now : Owns (f_at t hs) (tr_at t hs)) (uncut : u.cut ≡ false) where
    open at_turn t whole hs u more is use {s as s0, s_after as s1, lawful_after as lawful1, f as f0, p}
    open at_trail t hs u use {tr as tr0, begun_tr as trb}

    lawful0 : IsLawfulRun s0
    lawful0 = turns.lawful0 t whole hs u more is roots now

    abbrev k : NodeState
    k = (turns.may t whole hs u more is roots now).0

    abbrev k1 : NodeState
    k1 = heard k u.input

    abbrev d : TurnDraft
    d = draft_of p k u.input

    abbrev may : MayHappen t.places t.commands f0 (happenings.Turn u)
    may = turns.may t whole hs u more is roots now

    abbrev knows : (l : Live) → live_at d.after l.me ≡ Some l → Knows k1 trb l.me
    knows l live = turns.knows_after t whole hs u more is roots now uncut l live

    own_node : (l : Live) → live_at d.after l.me ≡ Some l → l.me.node ≡ u.node
    own_node l live =
        let up1 : node_at (facts_at s1) u.node ≡ Some d.after = ap (λ f. node_at f u.node) (one_on t hs (happenings.Turn u)) ∙ kids.after_up t whole hs u more is (turns.tells t whole hs u more is roots now) uncut in
        all_found (λ y. y.me.node ≡ u.node) live_id d.after.lives l.me l (ids_name_their_node s1 lawful1 u.node d.after up1).lives live

    outcome_is : outcome_at t.places f0 u ≡ Some (output_of d)
    unfolding turn_of
    outcome_is = ap (served p u.input) may.1.up

    abbrev answer : Option Answer
    answer = answered_by (outcome_at t.places f0 u)

    answer_is : answer ≡ answer_of d
    answer_is = ap answered_by outcome_is

    -- sessions fit, and live roots are those of their sessions
    rests : NodeRests k1
    rests = heard_rests k u.input (subst (λ o. IfSome o NodeRests) may.1.up (run_roots s0 lawful0 u.node))

    rooted : (l : Live) → live_at k1 l.me ≡ Some l → l.parent ≡ None → HasRoot k1 l.me.session l.me
    rooted l live top = (live_root k1 rests.1 l.me l live top).root

    range : (n : ℕ) (s : Stmt) → IsCall u.input n s → IsSession n
    range n s call = turns.range t whole hs u more is roots now n s call

    -- no run is told, or it is not accepted
    abbrev pub Unrun : Type 0
    Unrun = (run_in f0 trb u ≡ None) ⊎ (is_accepted answer ≡ false)

    no_rows : BringsNone u.input → Unrun
    no_rows none = inl (none_runs f0 trb u (none_asked trb u.node u.input none))

    -- the branch that goes back, of a turn that is whole
    back_is : (i : Input) → u.input ≡ i → back_in trb u answer ≡ goes_back trb u.node answer i
    back_is i input = ap (λ c. if c then None else goes_back trb u.node answer u.input) uncut ∙ ap (goes_back trb u.node answer) input

    -- ---- a live branch

    module _ (l : Live) (live : live_at d.after l.me ≡ Some l) where
      abbrev it : Knows k1 trb l.me
      it = knows l live

      abbrev s : Seen
      s = it.seen

      abbrev step : ℕ
      step = taken_after u.node s u.input

      me : s.me ≡ l.me
      me = item_is seen_id trb.seen l.me s it.at

      parent : s.parent ≡ l.parent
      parent = turns.parents_after t whole hs u more is roots now uncut l live

      -- a root was live, or has begun
      abbrev WasRoot : Type 0
      WasRoot = ((z : Live) × (live_at k1 l.me ≡ Some z) × HasRoot k1 l.me.session l.me) ⊎ ((live_at k1 l.me ≡ None) × NewRoot p u.input k1 l.me)

      was_root : l.parent ≡ None → WasRoot
      was_root top = by (live_at k1 l.me) refl
        where
          new : live_at k1 l.me ≡ None → WasRoot
          new none = elim (lives_on p u.input l.me (turns.step t whole hs u more is roots now) l live) [
            | inl there ↦ (let at = there.1 in absurd (cc (none, at)))
            | inr others ↦ elim others [ inl root ↦ inr (none, root) | inr below ↦ absurd (below top) ]
          ]

          by : (o : Option Live) → live_at k1 l.me ≡ o → WasRoot
          by None none = new none
          by (Some z) there =
              let z_me : z.me ≡ l.me = item_is live_id k1.lives l.me z there in
              let at : live_at k l.me ≡ Some z = ap (λ (ls : List Live). item_at live_id ls l.me) (sym (turns.heard_same t whole hs u more is roots now u.input).2) ∙ there in
              let grown = (turns.opens_by t whole hs u more is roots now uncut l live).old z at in
              let z_top : z.parent ≡ None = sym grown.1 ∙ top in
              inl (z, there, subst (λ c. HasRoot k1 c.session c) z_me (rooted z (subst (λ c. live_at k1 c ≡ Some z) (sym z_me) there) z_top))

      -- whether it is told as the root of a session
      root_is : (n : ℕ) → l.parent ≡ None → is_root_of u.node n s ≡ (l.me.session == n)
      root_is n top =
          ap (λ q. (q && is_none s.exit) && (is_none s.parent && (s.me.session == n))) (eq-eqb s.me.node u.node (ap (λ (c : BranchId). c.node) me ∙ own_node l live))
          ∙ (ap (λ o. is_none o && (is_none s.parent && (s.me.session == n))) it.live ∙ (ap (λ o. is_none o && (s.me.session == n)) (parent ∙ top) ∙ ap (λ (c : BranchId). c.session == n) me))

      no_root_of : (n : ℕ) → (l.parent ≡ None → l.me.session ≡ n → ⊥) → is_root_of u.node n s ≡ false
      no_root_of n not_so = by l.parent refl
        where
          by_session : (q : Bool) → (l.me.session == n) ≡ q → l.parent ≡ None → q ≡ false
          by_session true is top = absurd (not_so top (eqb-true l.me.session n is))
          by_session false is top = refl

          by : (o : Option BranchId) → l.parent ≡ o → is_root_of u.node n s ≡ false
          by None top = root_is n top ∙ by_session (l.me.session == n) refl top
          by (Some b) above =
              and_right (is_live_at u.node s) (is_none s.parent && (s.me.session == n)) (and_left (is_none s.parent) (s.me.session == n) (ap is_none (parent ∙ above)))

      -- ---- the step of a root after a call

      module _ (n : ℕ) (st : Stmt) (call : IsCall u.input n st) (counts : Bool) (its : is_counted st ≡ counts) (j : NodeState) (counting : Counting counts p k1 j n) (new : MayBegin st → NewCounting counts p k1 j n) where
        -- a root that begins does so with this call
        new_so : NewRoot p u.input k1 l.me → (l.me ≡ new_root p k1 n) × ((session_at k1.sessions n).root ≡ None) × MayBegin st
        new_so root =
            let both : inputs.Call n (Some st) ≡ inputs.Call root.session (Some root.statement) = sym call ∙ root.call in
            let one : root.session ≡ n = cc in
            let two : root.statement ≡ st = cc in
            let so = new_is p u.input range k1 rests.0 l.me root in
            (so.0 ∙ ap (new_root p k1) one, subst (λ i. (session_at k1.sessions i).root ≡ None) one so.1, subst MayBegin two root.begins)

        pub root_in : l.parent ≡ None → l.me.session ≡ n → HasRoot j n l.me
        root_in top here = elim (was_root top) [
          | inl old ↦ (counting.old l.me (subst (λ i. HasRoot k1 i l.me) here old.2)).1
          | inr begins ↦ (let so = new_so begins.1 in subst (HasRoot j n) (sym so.0) (new so.2 so.1).1)
        ]

        pub root_step : l.parent ≡ None → step ≡ (session_at j.sessions l.me.session).calls
        root_step top = told ∙ elim (was_root top) [ inl old ↦ old_step old.0 old.1 old.2 (l.me.session == n) refl | inr begins ↦ new_step begins.0 (new_so begins.1) ]
          where
            told : step ≡ (if (l.me.session == n) && counts then s.taken + 1 else s.taken)
            told = ap (taken_after u.node s) call ∙ (ap (λ q. if q && is_counted st then s.taken + 1 else s.taken) (root_is n top) ∙ ap (λ q. if (l.me.session == n) && q then s.taken + 1 else s.taken) its)

            old_step : (z : Live) → live_at k1 l.me ≡ Some z → HasRoot k1 l.me.session l.me → (q : Bool) → (l.me.session == n) ≡ q → (if q && counts then s.taken + 1 else s.taken) ≡ (session_at j.sessions l.me.session).calls
            old_step z there has true here =
                let m_is : l.me.session ≡ n = eqb-true l.me.session n here in
                ap (λ a. if counts then a + 1 else a) (it.counts (parent ∙ top) z there)
                ∙ (ap (λ i. if counts then (session_at k1.sessions i).calls + 1 else (session_at k1.sessions i).calls) m_is
                ∙ (sym (counting.old l.me (subst (λ i. HasRoot k1 i l.me) m_is has)).0 ∙ ap (λ i. (session_at j.sessions i).calls) (sym m_is)))
            old_step z there has false other =
                it.counts (parent ∙ top) z there ∙ sym (counting.others l.me.session (λ here. (let same_one : (l.me.session == n) ≡ true = eq-eqb l.me.session n (sym here) in absurd (cc (same_one, other)))))

            new_step : live_at k1 l.me ≡ None → (l.me ≡ new_root p k1 n) × ((session_at k1.sessions n).root ≡ None) × MayBegin st → (if (l.me.session == n) && counts then s.taken + 1 else s.taken) ≡ (session_at j.sessions l.me.session).calls
            new_step none so =
                let m_is : l.me.session ≡ n = ap (λ (c : BranchId). c.session) so.0 in
                ap (λ q. if q && counts then s.taken + 1 else s.taken) (eq-eqb l.me.session n m_is)
                ∙ (ap (λ a. if counts then a + 1 else a) (it.fresh none) ∙ (sym (new so.2 so.1).0 ∙ ap (λ i. (session_at j.sessions i).calls) (sym m_is)))

      -- that of any branch
      step_so : (l.parent ≡ None → step ≡ (session_at d.after.sessions l.me.session).calls) → step ≡ step_of d.after.sessions (record { live = l; work = work_at d.after l.me })
      step_so at_root = by l.parent refl
        where
          below_so : l.parent ≢ None → step ≡ last_of d.after l.me
          below_so below =
              let down : s.parent ≢ None = (λ none. below (sym parent ∙ none)) in
              turns.calls_below t whole hs u more is roots now uncut l live s it.at it.live down (it.taken down)

          by : (o : Option BranchId) → l.parent ≡ o → step ≡ step_of d.after.sessions (record { live = l; work = work_at d.after l.me })
          by None top = at_root top ∙ sym (ap (λ q. if q then (session_at d.after.sessions l.me.session).calls else last_of d.after l.me) (ap is_none top))
          by (Some q) above = below_so (λ none. absurd (cc (above, none))) ∙ sym (ap (λ q. if q then (session_at d.after.sessions l.me.session).calls else last_of d.after l.me) (ap is_none above))

      -- ---- what is told of it

      -- what is told of its runs before it goes back
      abbrev runs_now : List Ran
      runs_now = runs_with (runs_for s (run_in f0 trb u) answer) f0.book step s (run_in f0 trb u)

      runs_stay : Unrun → runs_now ≡ s.runs
      runs_stay unrun = elim unrun [ inl none ↦ own_unrun f0.book step s (run_in f0 trb u) answer none | inr not_so ↦ own_refused f0.book step s (run_in f0 trb u) answer not_so ]

      -- it does not go back
      traced_here : Unrun → step_back s.me (back_in trb u answer) ≡ None → sets_at d.after.owns l.me ≡ sets_at k1.owns l.me
          → steps_of_sets (work_at d.after l.me).marks.notes ≡ steps_of_sets (work_at k1 l.me).marks.notes → savepoints_set u.node answer step s u.input ≡ (work_at d.after l.me).marks.savepoints
          → (l.parent ≡ None → step ≡ (session_at d.after.sessions l.me.session).calls) → IsTracedWork d.after (turned t.places f0 tr0 u s) l
      traced_here unrun stays sets steps saves at_root =
          let same_runs : runs_back (step_back s.me (back_in trb u answer)) runs_now ≡ s.runs = ap (λ o. runs_back o runs_now) stays ∙ runs_stay unrun in
          record {
            runs = subst (λ rs. RunsAre rs step (sets_at d.after.owns l.me) (work_at d.after l.me).marks.notes) (sym same_runs)
                (noted_alike s.runs step (sets_at k1.owns l.me) (sets_at d.after.owns l.me) (work_at k1 l.me).marks.notes (work_at d.after l.me).marks.notes sets steps
                (runs_higher s.runs s.taken step (sets_at k1.owns l.me) (work_at k1 l.me).marks.notes (turns.taken_grows u.node s u.input) it.runs));
            savepoints = ap (λ o. savepoints_back o (savepoints_set u.node answer step s u.input)) stays ∙ saves;
            taken = step_so at_root;
          }

      -- nothing is done to it
      traced_same : Unrun → step_back s.me (back_in trb u answer) ≡ None → SameWork k1.owns k1.works d.after.owns d.after.works l.me → savepoints_set u.node answer step s u.input ≡ s.savepoints
          → (l.parent ≡ None → step ≡ (session_at d.after.sessions l.me.session).calls) → IsTracedWork d.after (turned t.places f0 tr0 u s) l
      traced_same unrun stays so saves at_root = traced_here unrun stays so.sets so.steps (saves ∙ (it.savepoints ∙ sym so.savepoints)) at_root

      -- it goes back to a step
      traced_back : (keep : ℕ) → Unrun → step_back s.me (back_in trb u answer) ≡ Some keep
          → sets_at d.after.owns l.me ≡ take (length (sets_at k1.owns l.me) - sets_behind (work_at k1 l.me).marks keep) (sets_at k1.owns l.me)
          → steps_of_sets (work_at d.after l.me).marks.notes ≡ steps_of_sets (notes_until (work_at k1 l.me).marks keep)
          → (work_at d.after l.me).marks.savepoints ≡ filter (λ x. nat_le x.step keep) (work_at k1 l.me).marks.savepoints → savepoints_set u.node answer step s u.input ≡ s.savepoints
          → (l.parent ≡ None → step ≡ (session_at d.after.sessions l.me.session).calls) → IsTracedWork d.after (turned t.places f0 tr0 u s) l
      traced_back keep unrun goes sets steps left saves at_root =
          let less : runs_back (step_back s.me (back_in trb u answer)) runs_now ≡ filter (λ r. nat_le r.step keep) s.runs = ap (λ o. runs_back o runs_now) goes ∙ ap (filter (λ r. nat_le r.step keep)) (runs_stay unrun) in
          let fewer : List ChangeSet = take (length (sets_at k1.owns l.me) - sets_behind (work_at k1 l.me).marks keep) (sets_at k1.owns l.me) in
          let kept : List Ran = filter (λ r. nat_le r.step keep) s.runs in
          record {
            runs = subst (λ rs. RunsAre rs step (sets_at d.after.owns l.me) (work_at d.after l.me).marks.notes) (sym less)
                (noted_alike kept step fewer (sets_at d.after.owns l.me) (notes_until (work_at k1 l.me).marks keep) (work_at d.after l.me).marks.notes sets steps
                (runs_higher kept s.taken step fewer (notes_until (work_at k1 l.me).marks keep) (turns.taken_grows u.node s u.input)
                (lists.runs_back keep s.runs s.taken (sets_at k1.owns l.me) (work_at k1 l.me).marks.notes it.runs)));
            savepoints = ap (λ o. savepoints_back o (savepoints_set u.node answer step s u.input)) goes ∙ (ap (filter (λ x. nat_le x.step keep)) (saves ∙ it.savepoints) ∙ sym left);
            taken = step_so at_root;
          }

      -- it or another goes back
      traced_went : (ss : List Session) (x : Branch) (keep : ℕ) → WentBack k1.owns k1.works ss x keep d → x.work.marks ≡ (work_at k1 x.live.me).marks → Unrun → back_in trb u answer ≡ Some (record { branch = x.live.me; step = keep })
          → savepoints_set u.node answer step s u.input ≡ s.savepoints → (l.parent ≡ None → step ≡ (session_at ss l.me.session).calls) → IsTracedWork d.after (turned t.places f0 tr0 u s) l
      traced_went ss x keep went marks unrun back saves at_root = by (same x.live.me l.me) refl
        where
          root_so : l.parent ≡ None → step ≡ (session_at d.after.sessions l.me.session).calls
          root_so top = at_root top ∙ sym (went.calls l.me.session)

          said_back : (q : Bool) → same x.live.me l.me ≡ q → step_back s.me (back_in trb u answer) ≡ (if q then Some keep else None)
          said_back q here = ap (step_back s.me) back ∙ ap (λ r. if r then Some keep else None) (ap (same x.live.me) me ∙ here)

          by : (q : Bool) → same x.live.me l.me ≡ q → IsTracedWork d.after (turned t.places f0 tr0 u s) l
          by true here =
              let one : x.live.me ≡ l.me = equal_from_same x.live.me l.me here in
              traced_back keep unrun (said_back true here)
              (subst (λ c. sets_at d.after.owns c ≡ take (length (sets_at k1.owns c) - sets_behind (work_at k1 c).marks keep) (sets_at k1.owns c)) one
              (subst (λ m. sets_at d.after.owns x.live.me ≡ take (length (sets_at k1.owns x.live.me) - sets_behind m keep) (sets_at k1.owns x.live.me)) marks went.sets))
              (subst (λ c. steps_of_sets (work_at d.after c).marks.notes ≡ steps_of_sets (notes_until (work_at k1 c).marks keep)) one
              (subst (λ m. steps_of_sets (work_at d.after x.live.me).marks.notes ≡ steps_of_sets (notes_until m keep)) marks went.steps))
              (subst (λ c. (work_at d.after c).marks.savepoints ≡ filter (λ y. nat_le y.step keep) (work_at k1 c).marks.savepoints) one
              (subst (λ m. (work_at d.after x.live.me).marks.savepoints ≡ filter (λ y. nat_le y.step keep) m.savepoints) marks went.savepoints))
              saves root_so
          by false other = traced_same unrun (said_back false other) (went.others l.me other) saves root_so

    -- ---- turns

    -- each live branch is told as its node keeps it
    abbrev pub Traces : Type 0
    Traces = ((l : Live) (live : live_at d.after l.me ≡ Some l) → IsTracedWork d.after (turned t.places f0 tr0 u (turns.knows_after t whole hs u more is roots now uncut l live).seen) l) × Unrun

    module _ (n : ℕ) (st : Stmt) (call : IsCall u.input n st) where
      no_back : ((a : Option Answer) → goes_back trb u.node a (inputs.Call n (Some st)) ≡ None) → (l : Live) (live : live_at d.after l.me ≡ Some l) → step_back (knows l live).seen.me (back_in trb u answer) ≡ None
      no_back none l live = ap (step_back (knows l live).seen.me) (back_is (inputs.Call n (Some st)) call ∙ none answer)

      -- a turn that leaves the works of branches
      unmoved : (counts : Bool) → is_counted st ≡ counts → (j : NodeState) → Counting counts p k1 j n → (MayBegin st → NewCounting counts p k1 j n) → Unmoved k1 j d → Unrun
          → ((a : Option Answer) → goes_back trb u.node a (inputs.Call n (Some st)) ≡ None) → ((a : Option Answer) (step : ℕ) (s : Seen) → savepoints_set u.node a step s (inputs.Call n (Some st)) ≡ s.savepoints) → Traces
      unmoved counts its j counting new un unrun none saves = (
        λ l live. traced_same l live unrun (no_back none l live) (un.own l.me l live)
            (ap (savepoints_set u.node answer (step l live) (s l live)) call ∙ saves answer (step l live) (s l live))
            (λ top. root_step l live n st call counts its j counting new top ∙ sym (un.calls l.me.session)),
        unrun,
      )

      -- a statement with a table
      rows : IsOfRows st → IsCounted st → is_counted st ≡ true → d ≡ statement_call p (begun p k1 n) n st → ((a : Option Answer) → goes_back trb u.node a (inputs.Call n (Some st)) ≡ None)
          → ((a : Option Answer) (step : ℕ) (s : Seen) → savepoints_set u.node a step s (inputs.Call n (Some st)) ≡ s.savepoints) → HasRun p u.input k1 d ⊎ Traces
      rows has counts its d_is none saves = elim (subst (RowsTurn p u.input k1 n) (sym d_is) (rows_turn p u.input k1 n st call has counts)) [
        | inl ran ↦ inl ran
        | inr rest ↦ inr (unmoved true its (begun p k1 n) (begun_counts p k1 rests.0 n) (λ begins. begun_new p k1 rests.0 n (range n st call)) rest.0 (inr (ap is_accepted answer_is ∙ rest.1)) none saves)
      ]

    -- SET TRANSACTION READ ONLY
    read_only : (n : ℕ) → IsCall u.input n stmts.SetReadOnly → d ≡ read_only_by p k1 n (session_at k1.sessions n).root → Traces
    read_only n call d_is = unmoved n stmts.SetReadOnly call false refl (begun_by p k1 n (Some k1.clock) (session_at k1.sessions n).root) (only_begun p k1 rests.0 n (Some k1.clock))
        (λ begins. only_new p k1 rests.0 n (range n stmts.SetReadOnly call) (Some k1.clock)) (subst (Unmoved k1 (begun_by p k1 n (Some k1.clock) (session_at k1.sessions n).root)) (sym d_is) (read_only_turn p k1 n))
        (no_rows (called_none u.input n stmts.SetReadOnly call refl)) (λ a. refl) (λ a step s. refl)

    -- SAVEPOINT
    module _ (n : ℕ) (name : List ℕ) (call : IsCall u.input n (stmts.Savepoint name)) where
      abbrev st : Stmt
      st = stmts.Savepoint name

      abbrev j : NodeState
      j = begun p k1 n

      -- the calls of a branch with the savepoint
      abbrev work_set : Branch → Work
      work_set x = (marked j.sessions x name).work

      unrun_set : Unrun
      unrun_set = no_rows (called_none u.input n st call refl)

      counting : Counting true p k1 j n
      counting = begun_counts p k1 rests.0 n

      new : MayBegin st → NewCounting true p k1 j n
      new begins = begun_new p k1 rests.0 n (range n st call)

      -- what is told of the savepoints of a branch
      told_set : (l : Live) (live : live_at d.after l.me ≡ Some l)
          → savepoints_set u.node answer (step l live) (s l live) u.input ≡ (if is_root_of u.node n (s l live) && not (is_refused answer) then with_savepoint (s l live).savepoints name (step l live) else (s l live).savepoints)
      told_set l live = ap (savepoints_set u.node answer (step l live) (s l live)) call

      -- a live root of the session is its transaction
      its_root : (l : Live) (live : live_at d.after l.me ≡ Some l) → l.parent ≡ None → l.me.session ≡ n → HasRoot j n l.me
      its_root l live top here = root_in l live n st call true refl j counting new top here

      its_step : (l : Live) (live : live_at d.after l.me ≡ Some l) → l.parent ≡ None → step l live ≡ (session_at j.sessions l.me.session).calls
      its_step l live top = root_step l live n st call true refl j counting new top

      stays : (l : Live) (live : live_at d.after l.me ≡ Some l) → step_back (knows l live).seen.me (back_in trb u answer) ≡ None
      stays l live = no_back n st call (λ a. refl) l live

      unset : (l : Live) (live : live_at d.after l.me ≡ Some l) → is_root_of u.node n (s l live) ≡ false → savepoints_set u.node answer (step l live) (s l live) u.input ≡ (s l live).savepoints
      unset l live none = told_set l live ∙ ap (λ q. if q && not (is_refused answer) then with_savepoint (s l live).savepoints name (step l live) else (s l live).savepoints) none

      savepoint : SavepointTurn k1 j n name d → Traces
      savepoint (No_root d_is none un) = (λ l live. traced_same l live unrun_set (stays l live) (un.own l.me l live) (unset l live (no_root_of l live n (not_there l live))) (λ top. its_step l live top ∙ sym (un.calls l.me.session)), unrun_set)
        where
          not_there : (l : Live) (live : live_at d.after l.me ≡ Some l) → l.parent ≡ None → l.me.session ≡ n → ⊥
          not_there l live top here =
              let there : live_at j l.me ≡ Some l = ap (λ (e : TurnDraft). live_at e.after l.me) (sym d_is) ∙ live in
              let some : root_at j n ≡ Some (record { live = l; work = work_at j l.me }) = ap (root_by j) (its_root l live top here) ∙ ap (with_work j) there in
              absurd (cc (some, none))
      savepoint (Not_set refused un) = (λ l live. traced_same l live unrun_set (stays l live) (un.own l.me l live) (not_set l live) (λ top. its_step l live top ∙ sym (un.calls l.me.session)), unrun_set)
        where
          not_set : (l : Live) (live : live_at d.after l.me ≡ Some l) → savepoints_set u.node answer (step l live) (s l live) u.input ≡ (s l live).savepoints
          not_set l live =
              told_set l live ∙ (ap (λ q. if is_root_of u.node n (s l live) && not q then with_savepoint (s l live).savepoints name (step l live) else (s l live).savepoints) (ap is_refused answer_is ∙ refused)
              ∙ by (is_root_of u.node n (s l live)))
            where
              by : (q : Bool) → (if q && false then with_savepoint (s l live).savepoints name (step l live) else (s l live).savepoints) ≡ (s l live).savepoints
              by true = refl
              by false = refl
      savepoint (Is_set x has found d_is) = (λ l live. by l live (same x.live.me l.me) refl, unrun_set)
        where
          mine : x.work.branch ≡ x.live.me
          mine = work_is j x.live.me x found

          x_top : x.live.parent ≡ None
          x_top = root_alone j (begun_fits p k1 rests.0 n) n x.live.me has x.live (live_so j x.live.me x found)

          x_session : x.live.me.session ≡ n
          x_session = (begun_fits p k1 rests.0 n).roots.each n x.live.me has

          sets : (l : Live) → sets_at d.after.owns l.me ≡ sets_at k1.owns l.me
          sets l = ap (λ (e : TurnDraft). sets_at e.after.owns l.me) d_is

          at_root : (l : Live) (live : live_at d.after l.me ≡ Some l) → l.parent ≡ None → step l live ≡ (session_at d.after.sessions l.me.session).calls
          at_root l live top = its_step l live top ∙ sym (ap (λ (e : TurnDraft). (session_at e.after.sessions l.me.session).calls) d_is)

          by : (l : Live) (live : live_at d.after l.me ≡ Some l) (q : Bool) → same x.live.me l.me ≡ q → IsTracedWork d.after (turned t.places f0 tr0 u (knows l live).seen) l
          by l live true here =
              let one : x.live.me ≡ l.me = equal_from_same x.live.me l.me here in
              let its_work : work_at d.after l.me ≡ work_set x = ap (λ (e : TurnDraft). work_at e.after l.me) d_is ∙ ap (work_or l.me) (subst (λ c. item_at work_id (put_item work_id j.works (work_set x)) c ≡ Some (work_set x)) (mine ∙ one) (put_found work_id j.works (work_set x))) in
              let its_old : x.work ≡ work_at k1 l.me = found_work j x found ∙ ap (work_at k1) one in
              let both : Some x.live ≡ Some l = sym (subst (λ c. item_at live_id (put_item live_id j.lives x.live) c ≡ Some x.live) one (put_found live_id j.lives x.live)) ∙ (ap (λ (e : TurnDraft). live_at e.after l.me) (sym d_is) ∙ live) in
              let is_l : x.live ≡ l = cc in
              let top : l.parent ≡ None = ap (λ (y : Live). y.parent) (sym is_l) ∙ x_top in
              let root : is_root_of u.node n (s l live) ≡ true = root_is l live n top ∙ eq-eqb l.me.session n (ap (λ (c : BranchId). c.session) (sym one) ∙ x_session) in
              let accepted : is_refused answer ≡ false = ap is_refused (answer_is ∙ ap answer_of d_is) in
              let step_is : step l live ≡ step_of j.sessions x = its_step l live top ∙ (ap (λ (c : BranchId). (session_at j.sessions c.session).calls) (sym one) ∙ sym (ap (λ o. if is_none o then (session_at j.sessions x.live.me.session).calls else x.work.came.last_call) x_top)) in
              let saves : savepoints_set u.node answer (step l live) (s l live) u.input ≡ (work_at d.after l.me).marks.savepoints
              = told_set l live
              ∙ (ap (λ q. if q && not (is_refused answer) then with_savepoint (s l live).savepoints name (step l live) else (s l live).savepoints) root
              ∙ (ap (λ q. if not q then with_savepoint (s l live).savepoints name (step l live) else (s l live).savepoints) accepted
              ∙ (ap (λ ss. with_savepoint ss name (step l live)) ((it l live).savepoints ∙ ap (λ (y : Work). y.marks.savepoints) (sym its_old))
              ∙ (ap (with_savepoint x.work.marks.savepoints name) step_is ∙ sym (ap (λ (y : Work). y.marks.savepoints) its_work))))) in
              traced_here l live unrun_set (stays l live) (sets l) (ap (λ (y : Work). steps_of_sets y.marks.notes) (its_work) ∙ ap (λ (y : Work). steps_of_sets y.marks.notes) its_old) saves (at_root l live)
          by l live false other =
              let not_it : is_root_of u.node n (s l live) ≡ false = no_root_of l live n (λ top here. (let its = its_root l live top here in let both : Some x.live.me ≡ Some l.me = sym has ∙ its in let one : x.live.me ≡ l.me = cc in
              let is_same : same x.live.me l.me ≡ true = same_from_equal x.live.me l.me one in absurd (cc (is_same, other)))) in
              let leaves : work_at d.after l.me ≡ work_at k1 l.me = ap (λ (e : TurnDraft). work_at e.after l.me) d_is ∙ ap (work_or l.me) (put_leaves work_id j.works (marked j.sessions x name).work l.me (subst (λ c. same c l.me ≡ false) (sym mine) other)) in
              traced_here l live unrun_set (stays l live) (sets l) (ap (λ (y : Work). steps_of_sets y.marks.notes) leaves) (unset l live not_it ∙ ((it l live).savepoints ∙ sym (ap (λ (y : Work). y.marks.savepoints) leaves))) (at_root l live)

    -- ROLLBACK TO
    module _ (n : ℕ) (name : List ℕ) (call : IsCall u.input n (stmts.RollbackTo name)) where
      back : BackTurn k1 (counted k1 n) n name d → Traces
      back (Not_back refused un) = (
        λ l live. traced_same l live unrun_back (ap (step_back (knows l live).seen.me) none) (un.own l.me l live)
            (ap (savepoints_set u.node answer (step l live) (s l live)) call)
            (λ top. root_step l live n (stmts.RollbackTo name) call true refl (counted k1 n) (counted_counts p k1 rests.0 n) (λ begins. absurd begins) top ∙ sym (un.calls l.me.session)),
        unrun_back,
      )
        where
          unrun_back : Unrun
          unrun_back = no_rows (called_none u.input n (stmts.RollbackTo name) call refl)

          none : back_in trb u answer ≡ None
          none = back_is (inputs.Call n (Some (stmts.RollbackTo name))) call ∙ ap (λ q. if q then None else back_root name (seen_root_at trb u.node n)) (ap is_refused answer_is ∙ refused)
      back (Is_back x keep has found set went) = (
        λ l live. traced_went l live (counted k1 n).sessions x keep went (ap (λ (w : Work). w.marks) its_work) unrun_back said (ap (savepoints_set u.node answer (step l live) (s l live)) call)
            (λ top. root_step l live n (stmts.RollbackTo name) call true refl (counted k1 n) (counted_counts p k1 rests.0 n) (λ begins. absurd begins) top),
        unrun_back,
      )
        where
          unrun_back : Unrun
          unrun_back = no_rows (called_none u.input n (stmts.RollbackTo name) call refl)

          its_work : x.work ≡ work_at k1 x.live.me
          its_work = found_work (counted k1 n) x found

          same_k : k1 ≡ k
          same_k = ap (heard k) call

          has_it : HasRoot k n x.live.me
          has_it = subst (λ i. HasRoot i n x.live.me) same_k (sym (ap (λ (y : Session). y.root) (counted_session k1.sessions n n (session_at k1.sessions n).root).1) ∙ has)

          said : back_in trb u answer ≡ Some (record { branch = x.live.me; step = keep })
          said =
              let root = seen_root tr0 k (seen_root_at tr0 u.node n) (session_at k.sessions n).root x.live.me has_it (turns.session_seen t whole hs u more is roots now n (stmts.RollbackTo name) call) in
              let it = turns.old_known t whole hs u more is roots now x.live.me x.live (live_so (counted k1 n) x.live.me x found) in
              let there : seen_root_at trb u.node n ≡ Some root.0 = find_more (is_root_of u.node n) tr0.seen _ root.0 root.1 in
              let at : seen_at trb x.live.me ≡ Some root.0 = find_more (is_item_of seen_id x.live.me) tr0.seen _ root.0 root.4 in
              let both : Some root.0 ≡ Some it.seen = sym at ∙ it.at in
              let one : it.seen ≡ root.0 = cc in
              let saved : root.0.savepoints ≡ x.work.marks.savepoints = ap (λ (y : Seen). y.savepoints) (sym one) ∙ (it.savepoints ∙ ap (λ (w : Work). w.marks.savepoints) (sym its_work)) in
              let step_is : step_of_savepoint name root.0.savepoints ≡ Some keep = ap (step_of_savepoint name) saved ∙ set in
              back_is (inputs.Call n (Some (stmts.RollbackTo name))) call
              ∙ (ap (λ q. if q then None else back_root name (seen_root_at trb u.node n)) (ap is_refused answer_is ∙ went.done)
              ∙ (ap (back_root name) there ∙ (ap (back_of root.0.me) step_is ∙ ap (λ c. Some (record { branch = c; step = keep })) root.2)))

    -- BACK
    module _ (from to : BranchId) (scn call keep : ℕ) (input : u.input ≡ inputs.Message (record { from = from; to = to; scn = scn; kind = kinds.Exec call (tasks.GoBack keep) })) where
      came : Came u.input from to (kinds.Exec call (tasks.GoBack keep))
      came = record { scn = scn; is = input }

      unrun_way : Unrun
      unrun_way = no_rows (subst BringsNone (sym input) refl)

      saves : (l : Live) (live : live_at d.after l.me ≡ Some l) → savepoints_set u.node answer (step l live) (s l live) u.input ≡ (s l live).savepoints
      saves l live = ap (savepoints_set u.node answer (step l live) (s l live)) input

      -- a root has the step that it had
      root_stays : (l : Live) (live : live_at d.after l.me ≡ Some l) → l.parent ≡ None → step l live ≡ (session_at k1.sessions l.me.session).calls
      root_stays l live top = elim (was_root l live top) [
        | inl old ↦ taken_same u.node (s l live) u.input
            (λ sender c task exec. turns.exec_below t whole hs u more is roots now uncut sender l.me c task (subst (λ b. Came u.input sender b (kinds.Exec c task)) (me l live) exec) old.0 old.1 (it l live) (parent l live ∙ top))
            (λ m st other. absurd (cc (input, other)))
            ∙ (it l live).counts (parent l live ∙ top) old.0 old.1
        | inr begins ↦ (let root = begins.1 in let other = root.call in absurd (cc (input, other)))
      ]

      back_said : back_in trb u answer ≡ back_branch call keep (seen_at trb to)
      back_said = back_is _ input

      -- another branch does not go back
      elsewhere : (b : BranchId) → same to b ≡ false → (o : Option Seen) → seen_at trb to ≡ o → step_back b (back_branch call keep o) ≡ None
      elsewhere b other None is = refl
      elsewhere b other (Some y) is = by (is_live y && nat_lt y.taken call)
        where
          by : (q : Bool) → step_back b (if q then back_of y.me (Some keep) else None) ≡ None
          by true = ap (λ c. if same c b then Some keep else None) (item_is seen_id trb.seen to y is) ∙ ap (λ q. if q then Some keep else None) other
          by false = refl

      stays_away : (l : Live) (live : live_at d.after l.me ≡ Some l) → same to l.me ≡ false → step_back (knows l live).seen.me (back_in trb u answer) ≡ None
      stays_away l live other = ap (step_back (s l live).me) back_said ∙ elsewhere (s l live).me (ap (same to) (me l live) ∙ other) (seen_at trb to) refl

      -- nothing changes
      kept_so : d.after ≡ k1 → ((l : Live) (live : live_at d.after l.me ≡ Some l) → step_back (knows l live).seen.me (back_in trb u answer) ≡ None) → Traces
      kept_so after stays = (
        λ l live. traced_same l live unrun_way (stays l live)
            (subst (λ (i : NodeState). SameWork k1.owns k1.works i.owns i.works l.me) (sym after) (record { sets = refl; steps = refl; savepoints = refl })) (saves l live)
            (λ top. root_stays l live top ∙ ap (λ (i : NodeState). (session_at i.sessions l.me.session).calls) (sym after)),
        unrun_way,
      )

      way_back : WayBack k1 to call keep d → Traces
      way_back (Not_live none after) = kept_so after (λ l live. stays_away l live (by l live (same to l.me) refl))
        where
          by : (l : Live) → live_at d.after l.me ≡ Some l → (q : Bool) → same to l.me ≡ q → q ≡ false
          by l live true here =
              let one : to ≡ l.me = equal_from_same to l.me here in
              let gone : live_at k1 l.me ≡ None = subst (λ c. live_at k1 c ≡ None) one none in
              let there : live_at k1 l.me ≡ Some l = ap (λ (i : NodeState). live_at i l.me) (sym after) ∙ live in
              absurd (cc (gone, there))
          by l live false other = refl
      way_back (Not_new x x_me found low after) = kept_so after (λ l live. by l live (same to l.me) refl)
        where
          by : (l : Live) (live : live_at d.after l.me ≡ Some l) (q : Bool) → same to l.me ≡ q → step_back (knows l live).seen.me (back_in trb u answer) ≡ None
          by l live false other = stays_away l live other
          by l live true here =
              let one : to ≡ l.me = equal_from_same to l.me here in
              let there : live_at k1 l.me ≡ Some x.live = subst (λ c. live_at k1 c ≡ Some x.live) (x_me ∙ one) (live_so k1 x.live.me x found) in
              let down : (s l live).parent ≢ None = turns.exec_below t whole hs u more is roots now uncut from l.me call (tasks.GoBack keep) (subst (λ c. Came u.input from c (kinds.Exec call (tasks.GoBack keep))) one came) x.live there (it l live) in
              let taken : (s l live).taken ≡ x.work.came.last_call = (it l live).taken down ∙ (ap (last_of k1) (sym (x_me ∙ one)) ∙ sym (found_calls k1 x found)) in
              let late : nat_lt (s l live).taken call ≡ false = ap (λ a. nat_lt a call) taken ∙ low in
              ap (step_back (s l live).me) (back_said ∙ (ap (back_branch call keep) (ap (seen_at trb) one ∙ (it l live).at) ∙ ap (λ q. if is_live (s l live) && q then back_of (s l live).me (Some keep) else None) late)) ∙ none_of (is_live (s l live)) (s l live)
            where
              none_of : (q : Bool) (y : Seen) → step_back y.me (if q && false then back_of y.me (Some keep) else None) ≡ None
              none_of true y = refl
              none_of false y = refl
      way_back (Is_new x x_me found first went) = (λ l live. traced_went l live k1.sessions (takes_call x call (tasks.GoBack keep)) keep went (ap (λ (w : Work). w.marks) (found_work k1 x found)) unrun_way said (saves l live) (root_stays l live), unrun_way)
        where
          said : back_in trb u answer ≡ Some (record { branch = x.live.me; step = keep })
          said =
              let there : live_at k1 x.live.me ≡ Some x.live = live_so k1 x.live.me x found in
              let it = turns.old_known t whole hs u more is roots now x.live.me x.live there in
              let down : it.seen.parent ≢ None = turns.exec_below t whole hs u more is roots now uncut from x.live.me call (tasks.GoBack keep) (subst (λ c. Came u.input from c (kinds.Exec call (tasks.GoBack keep))) (sym x_me) came) x.live there it in
              let below : nat_lt it.seen.taken call ≡ true = ap (λ a. nat_lt a call) (it.taken down ∙ sym (found_calls k1 x found)) ∙ first in
              let its_me : it.seen.me ≡ x.live.me = item_is seen_id trb.seen x.live.me it.seen it.at in
              back_said ∙ (ap (back_branch call keep) (ap (seen_at trb) (sym x_me) ∙ it.at)
              ∙ (ap (λ o. if is_none o && nat_lt it.seen.taken call then back_of it.seen.me (Some keep) else None) it.live
              ∙ (ap (λ q. if q then back_of it.seen.me (Some keep) else None) below ∙ ap (λ c. Some (record { branch = c; step = keep })) its_me)))

    -- ---- all of them

    -- a statement ran, or each branch is told as its node keeps it, and no run is accepted
    pub special_turn : is_plain u.input ≡ false → HasRun p u.input k1 d ⊎ Traces
    special_turn special = by u.input refl special
      where
        draft_is : (i : Input) → u.input ≡ i → d ≡ draft_at p k1 i
        draft_is i input = ap (draft_at p k1) input

        by_call : (n : ℕ) (st : Stmt) → IsCall u.input n st → is_plain (inputs.Call n (Some st)) ≡ false → HasRun p u.input k1 d ⊎ Traces
        by_call n (stmts.Insert table columns given) call special = rows n (stmts.Insert table columns given) call tt tt refl (draft_is _ call) (λ a. refl) (λ a step s. refl)
        by_call n (stmts.Update table sets cs) call special = rows n (stmts.Update table sets cs) call tt tt refl (draft_is _ call) (λ a. refl) (λ a step s. refl)
        by_call n (stmts.Delete table cs) call special = rows n (stmts.Delete table cs) call tt tt refl (draft_is _ call) (λ a. refl) (λ a step s. refl)
        by_call n (stmts.Select list table cs for_update) call special = rows n (stmts.Select list table cs for_update) call tt tt refl (draft_is _ call) (λ a. refl) (λ a step s. refl)
        by_call n stmts.SetReadOnly call special = inr (read_only n call (draft_is _ call))
        by_call n (stmts.Savepoint name) call special = inr (savepoint n name call (subst (SavepointTurn k1 (begun p k1 n) n name) (sym (draft_is _ call)) (savepoint_turn p k1 n name)))
        by_call n (stmts.RollbackTo name) call special = inr (back n name call (subst (BackTurn k1 (counted k1 n) n name) (sym (draft_is _ call)) (back_turn k1 n name)))
        by_call n _ call special = absurd cc

        by_kind : (from to : BranchId) (scn : ℕ) (kind : Kind) → u.input ≡ inputs.Message (record { from = from; to = to; scn = scn; kind = kind }) → not (is_way_back kind) ≡ false → HasRun p u.input k1 d ⊎ Traces
        by_kind from to scn (kinds.Exec call (tasks.GoBack keep)) input special =
            inr (way_back from to scn call keep input (subst (WayBack k1 to call keep) (sym (draft_is _ input)) (way_back_turn p k1 from to call keep)))
        by_kind from to scn _ input special = absurd cc

        by : (i : Input) → u.input ≡ i → is_plain i ≡ false → HasRun p u.input k1 d ⊎ Traces
        by (inputs.Call n (Some st)) input special = by_call n st input special
        by (inputs.Message m) input special = by_kind m.from m.to m.scn m.kind input special
        by _ input special = absurd cc
