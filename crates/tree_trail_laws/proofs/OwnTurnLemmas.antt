-- A turn leaves what is told of the changes of live branches, and of the calls that they took, as their nodes keep them; and its answer to a run is meant.
use Rattle.std.proofs.Common.{◌≡◌, ℕ, ◌==◌, ◌&&◌, ◌⊎◌, Bool, true, false, if◌then◌else◌, is_none, List, [], ◌∷◌, ◌++◌, max, find, Option, Some, None, inl, inr, refl, sym, ap, subst, ◌∙◌, true≢false, subst₂, ◌+◌, ◌≢◌, arith, ◌≤◌}
use Rattle.std.proofs.lemmas.Bool.{eq-eqb, and_left, and_right}
use Rattle.tran_ids.proofs.BranchLemmas.{equal_from_same, same_from_equal}
use Rattle.tran_ids.proofs.ListedLemmas.{item_is}
use Rattle.node_rules.specs.Data.{Stmt, BranchId, Kind, Live, Msg, Input, Task}
use Rattle.node_rules.specs.Data.inputs
use Rattle.node_rules.specs.Data.kinds
use Rattle.node_rules.specs.Words.{same, is_item_of, item_at}
use Rattle.node_rules.specs.Inputs.{IsSession, Came, IsCall}
use Rattle.node_rules.specs.NodeState.{NodeState, Branch, live_id, work_or, sets_of, live_at, branch_at, work_at, with_work, kept_row_at, sets_at, no_work}
use Rattle.node_rules.specs.Rows.{changes_of}
use Rattle.node_rules.specs.Prepare.{own_changes}
use Rattle.node_rules.specs.Client.{new_root}
use Rattle.node_rules.specs.Sessions.{session_at}
use Rattle.node_rules.specs.Turn.{heard, draft_of, kind_turn, Is_live, status_of, live_or}
use Rattle.node_rules.proofs.Steps.{HasRoot, Step, Asked, IsOfRows}
use Rattle.run_rules.specs.Births.{births_of, born_at, read_at_by}
use Rattle.run_rules.specs.Branches.{Seen, Trail, seen_id, seen_at, own_at, own_of, newly_seen, is_live, is_root_of, root_at, read_at_at, is_live_at, read_at_of}
use Rattle.run_key_laws.specs.ChangedLaws.{changes_at}
use Rattle.run_rules.specs.Data.{Turn, Happening}
use Rattle.run_rules.specs.Data.happenings
use Rattle.run_rules.specs.Facts.{Facts, node_at}
use Rattle.run_rules.specs.Lawful.{MayHappen, History, IsLawfulRun}
use Rattle.run_rules.specs.Trail.{next_root, root_seen, roots_begun, children_begun, begun_in_turn, taken_by, taken_after, strength_at, clock_of}
use Rattle.run_branch_laws.proofs.CallLemmas.{CallsSo, calls_keep}
use Rattle.run_key_laws.proofs.ChangedLemmas.{changes_are_of_live}
use Rattle.run_base_laws.proofs.EventsStandLemmas.{run_stands}
use Rattle.run_base_laws.proofs.LawfulLemmas.{serves}
use Rattle.run_base_laws.proofs.NodeLemmas.{kept_alone}
use Rattle.run_base_laws.proofs.RootLemmas.{SessionsFit, sessions_keep}
use Rattle.run_base_laws.proofs.TurnEventLemmas.{number_is}
use Rattle.tree_laws.proofs.PrefixLemmas.{f_at}
use Rattle.tree_laws.proofs.TimeLemmas.{Part, part_lawful, may_of}
use Rattle.tree_trail_laws.specs.OwnLaws.{TracesRoots}
use Rattle.tree_trail_laws.specs.SeenLaws.{TracesOwns, IsSeenRoot}
use Rattle.tree_trail_laws.proofs.CallLemmas.{call_free, seen_root}
use Rattle.tree_trail_laws.proofs.ChildRunLemmas.{tells_at}
use Rattle.tree_trail_laws.proofs.ChildStepLemmas.{Grows, IsOpened}
use Rattle.tree_trail_laws.proofs.ChildTurnLemmas as kids
use Rattle.tree_trail_laws.proofs.ChildTurnLemmas.{Tells}
use Rattle.tree_trail_laws.proofs.LowerRunLemmas.{lower_at}
use Rattle.tree_trail_laws.proofs.MomentLemmas.{tr_at}
use Rattle.tree_trail_laws.proofs.OwnAskLemmas.{RootsAre}
use Rattle.tree_trail_laws.proofs.OwnCallLemmas.{last_of, calls_on, exec_took}
use Rattle.tree_trail_laws.proofs.OwnKnowLemmas.{Knows, heard_knows, known_own}
use Rattle.tree_trail_laws.proofs.OwnLiveLemmas.{NewRoot, IsOfThese, lives_on, new_is, has_at}
use Rattle.tree_trail_laws.proofs.OwnStepLemmas.{From, Itself, Begun, Counted}
use Rattle.tree_trail_laws.proofs.OwnRecordLemmas.{heard_owns}
use Rattle.tree_trail_laws.proofs.PlanLemmas.{find_more, find_last}
use Rattle.tree_laws.proofs.AtTurn.{at_turn}
use Rattle.tree_trail_laws.proofs.AtTrail.{at_trail}
use Rattle.tree_trail_laws.proofs.LowerLivesLemmas.{bool_cases}
use Rattle.tree_trail_laws.proofs.HeardNodeLemmas.{heard_fits}
use Rattle.tree_trail_laws.proofs.TopCountLemmas.{may_so}
use Rattle.tree_trail_laws.specs.RunLaws.{IsTracedWork, TracesWorks, RunsAre}
use Rattle.node_rules.proofs.Steps.{By_call}
use Rattle.node_rules.proofs.Steps.{By_exec}
use Rattle.node_rules.specs.Data.tasks
use Rattle.node_rules.specs.Data.stmts
use Rattle.run_rules.specs.Trail.{is_exec}
use Rattle.run_rules.specs.Runs.{is_counted}
use Rattle.tree_trail_laws.proofs.LowerTurnLemmas.{some_there}
use Rattle.node_rules.specs.declared.work.Work.{Work}
use Rattle.run_base_laws.specs.BirthLaws.{Began, GoesSo}
use Rattle.run_base_laws.proofs.RestRunLemmas.{asked_parent}
use Rattle.run_base_laws.proofs.BirthsStandLemmas.{came_so}
use Rattle.node_rules.proofs.StandLemmas.{live_so}
use Rattle.run_base_laws.proofs.BirthRunLemmas.{messages_are_of_neighbors, nodes_name_the_born}
use Rattle.std.proofs.lemmas.Bool.Decides.{nat_tests}

-- the greatest call number that a branch is told to have taken
abbrev pub taken_of : Option Seen → ℕ
taken_of None = 0
taken_of (Some s) = s.taken

-- an Exec came to a branch, or none did
pub exec_to : (b : BranchId) (input : Input)
    → ((from : BranchId) × (call : ℕ) × (task : Task) × (scn : ℕ) × (input ≡ inputs.Message (record { from = from; to = b; scn = scn; kind = kinds.Exec call task })))
    ⊎ ((from : BranchId) (call : ℕ) (task : Task) → Came input from b (kinds.Exec call task) → ⊥)
exec_to b (inputs.Message m) = by m.kind refl
  where
    by : (kind : Kind) → m.kind ≡ kind
        → ((from : BranchId) × (call : ℕ) × (task : Task) × (scn : ℕ) × (inputs.Message m ≡ inputs.Message (record { from = from; to = b; scn = scn; kind = kinds.Exec call task })))
        ⊎ ((from : BranchId) (call : ℕ) (task : Task) → Came (inputs.Message m) from b (kinds.Exec call task) → ⊥)
    by (kinds.Exec call task) is = bool_cases (same m.to b) _
        (λ here. inl (m.from, call, task, m.scn, message_so here))
        (λ other. inr (λ from c w came. (let one : inputs.Message m ≡ inputs.Message (record { from = from; to = b; scn = came.scn; kind = kinds.Exec c w }) = came.is in
        let to : m.to ≡ b = cc in let here : same m.to b ≡ true = same_from_equal m.to b to in absurd (cc (here, other)))))
      where
        message_so : same m.to b ≡ true → inputs.Message m ≡ inputs.Message (record { from = m.from; to = b; scn = m.scn; kind = kinds.Exec call task })
        message_so here =
            let to : m.to ≡ b = equal_from_same m.to b here in
            ap (λ c. inputs.Message (record { from = m.from; to = c; scn = m.scn; kind = m.kind })) to ∙ ap (λ kind. inputs.Message (record { from = m.from; to = b; scn = m.scn; kind = kind })) is
    by _ is = inr (λ from c w came. (let one : inputs.Message m ≡ inputs.Message (record { from = from; to = b; scn = came.scn; kind = kinds.Exec c w }) = came.is in
        let kind : m.kind ≡ kinds.Exec c w = cc in absurd (cc (is, kind))))
exec_to b (inputs.Call n s) = inr (λ from c w came. (let one = came.is in absurd (cc one)))
exec_to b (inputs.GiveUp n) = inr (λ from c w came. (let one = came.is in absurd (cc one)))
exec_to b inputs.Reco = inr (λ from c w came. (let one = came.is in absurd (cc one)))
exec_to b inputs.Checkpoint = inr (λ from c w came. (let one = came.is in absurd (cc one)))

-- without one, and without a call of its client that counts, the step that is told stays
pub taken_same : (n : ℕ) (s : Seen) (input : Input) → ((from : BranchId) (call : ℕ) (task : Task) → Came input from s.me (kinds.Exec call task) → ⊥)
    → ((m : ℕ) (st : Stmt) → input ≡ inputs.Call m (Some st) → (is_root_of n m s && is_counted st) ≡ false) → taken_after n s input ≡ s.taken
taken_same n s (inputs.Message m) not_to not_called = by (same m.to s.me) (is_live s) refl m.kind refl
  where
    by : (here alive : Bool) → same m.to s.me ≡ here → (kind : Kind) → m.kind ≡ kind → (if here && alive then taken_by s.taken kind else s.taken) ≡ s.taken
    by false alive other kind is = refl
    by true false here kind is = refl
    by true true here (kinds.Exec call task) is =
        let to : m.to ≡ s.me = equal_from_same m.to s.me here in
        absurd (not_to m.from call task (record {
          scn = m.scn;
          is = ap (λ c. inputs.Message (record { from = m.from; to = c; scn = m.scn; kind = m.kind })) to ∙ ap (λ kind. inputs.Message (record { from = m.from; to = s.me; scn = m.scn; kind = kind })) is;
        }))
    by true true here _ is = refl
taken_same n s (inputs.Call m (Some st)) not_to not_called = ap (λ q. if q then s.taken + 1 else s.taken) (not_called m st refl)
taken_same n s (inputs.Call m None) not_to not_called = refl
taken_same n s (inputs.GiveUp m) not_to not_called = refl
taken_same n s inputs.Reco not_to not_called = refl
taken_same n s inputs.Checkpoint not_to not_called = refl

stands_live : (k : NodeState) (x : Branch) → branch_at k x.live.me ≡ Some x → status_of k x.live.me ≡ Is_live x
unfolding status_of
stands_live k x found = ap (λ o. live_or o (kept_row_at k x.live.me)) found

-- whether an Exec comes
abbrev brings_exec : Input → Bool
brings_exec (inputs.Message m) = is_exec m.kind
brings_exec _ = false

-- a step is not lower after a turn
max_grows : (a c : ℕ) → a ≤ max a c
max_grows a c = grind (arith, nat_tests)

pub taken_grows : (n : ℕ) (s : Seen) (input : Input) → s.taken ≤ taken_after n s input
taken_grows n s (inputs.Message m) = by (same m.to s.me && is_live s) m.kind
  where
    by : (q : Bool) (kind : Kind) → s.taken ≤ (if q then taken_by s.taken kind else s.taken)
    by false kind = omega arith
    by true (kinds.Exec call task) = max_grows s.taken call
    by true _ = omega arith
taken_grows n s (inputs.Call m (Some st)) = by (is_root_of n m s && is_counted st)
  where
    by : (q : Bool) → s.taken ≤ (if q then s.taken + 1 else s.taken)
    by false = omega arith
    by true = omega arith
taken_grows n s (inputs.Call m None) = omega arith
taken_grows n s (inputs.GiveUp m) = omega arith
taken_grows n s inputs.Reco = omega arith
taken_grows n s inputs.Checkpoint = omega arith

-- a statement of rows begins no transaction that reads at an SCN
rows_newest : (clock : ℕ) (s : Stmt) → IsOfRows s → read_at_by clock s ≡ None
rows_newest clock (stmts.Insert table columns given) rows = refl
rows_newest clock (stmts.Update table sets cs) rows = refl
rows_newest clock (stmts.Delete table cs) rows = refl
rows_newest clock (stmts.Select list table cs for_update) rows = refl
rows_newest clock _ rows = absurd rows

-- What happenings keep.
pub record Owns (f : Facts) (tr : Trail) : Type 0 where
  pub owns : TracesOwns f tr
  pub works : TracesWorks f tr

module _ (t : History) (whole : IsLawfulRun t) where
  module _ (hs : List Happening) (u : Turn) (more : List Happening) (is : hs ++ happenings.Turn u ∷ more ≡ t.trace) (roots : TracesRoots t.places (f_at t hs) (tr_at t hs)) (now : Owns (f_at t hs) (tr_at t hs)) where
    pub part0 : Part t whole hs
    part0 = record { rest = happenings.Turn u ∷ more; is = is }

    open at_turn t whole hs u more is use {s as s0, f as f0, g as f1, k, p, heard_k as k1, d}
    open at_trail t hs u use {tr as tr0, tr_on as tr1, begun_tr as trb}

    pub lawful0 : IsLawfulRun s0
    lawful0 = part_lawful t whole hs part0

    pub tells : Tells t whole hs
    tells = tells_at t whole hs part0

    abbrev pub may : MayHappen t.places t.commands f0 (happenings.Turn u)
    may = may_of t whole hs (happenings.Turn u) more is

    pub step : Step p u.input k1 d
    step = (serves t.places f0 u k may.1).step

    fits : SessionsFit k
    fits = kept_alone SessionsFit sessions_keep s0 lawful0 u.node k may.1.up

    -- ---- live branches before the turn

    pub known : (n : ℕ) (j : NodeState) → node_at f0 n ≡ Some j → (l : Live) → live_at j l.me ≡ Some l → Knows j tr0 l.me
    known n j up l live = by l.parent refl
      where
        its : (s : Seen) → seen_at tr0 l.me ≡ Some s → s.exit ≡ None → s.parent ≡ l.parent → Knows j tr0 l.me
        its s at alive parent =
            let work = now.works n j up l live in
            let both : Some s ≡ Some work.0 = sym at ∙ work.1 in
            let one : work.0 ≡ s = cc in
            let so : IsTracedWork j s l = subst (λ (y : Seen). IsTracedWork j y l) one work.2 in
            record {
              seen = s;
              at = at;
              live = alive;
              runs = so.runs;
              savepoints = so.savepoints;
              taken = λ below. so.taken ∙ ap (λ q. if q then (session_at j.sessions l.me.session).calls else (work_at j l.me).came.last_call) (some_there l.parent (λ none. below (parent ∙ none)));
              counts = λ top y there. so.taken ∙ ap (λ q. if q then (session_at j.sessions l.me.session).calls else (work_at j l.me).came.last_call) (ap is_none (sym parent ∙ top));
              fresh = λ none. absurd (cc (live, none));
            }

        by : (o : Option BranchId) → l.parent ≡ o → Knows j tr0 l.me
        by None root = (let it = roots.tops n j up l live root in its it.0 it.1 it.2.live it.2.parent)
        by (Some q) above = (let it = lower_at t whole hs part0 n j up l live (λ none. absurd (cc (above, none))) in its it.0 it.1 it.2.live it.2.parent)

    pub heard_same : (input : Input) → ((heard k input).sessions ≡ k.sessions) × ((heard k input).stored ≡ k.stored) × ((heard k input).lives ≡ k.lives)
    heard_same (inputs.Message m) = (refl, refl, refl)
    heard_same (inputs.Call n s) = (refl, refl, refl)
    heard_same (inputs.GiveUp n) = (refl, refl, refl)
    heard_same inputs.Reco = (refl, refl, refl)
    heard_same inputs.Checkpoint = (refl, refl, refl)

    lives_back : (b : BranchId) (z : Live) → live_at k1 b ≡ Some z → live_at k b ≡ Some z
    lives_back b z live = ap (λ (ls : List Live). item_at live_id ls b) (sym (heard_same u.input).2) ∙ live

    known_begun : (b : BranchId) → Knows k tr0 b → Knows k1 trb b
    known_begun b it = heard_knows k u.input trb b (record {
      seen = it.seen;
      at = find_more (is_item_of seen_id b) tr0.seen _ it.seen it.at;
      live = it.live;
      runs = it.runs;
      savepoints = it.savepoints;
      taken = it.taken;
      counts = it.counts;
      fresh = it.fresh;
    })

    -- one that was live
    pub old_known : (b : BranchId) (z : Live) → live_at k1 b ≡ Some z → Knows k1 trb b
    old_known b z live =
        let at : live_at k b ≡ Some z = lives_back b z live in
        let me : z.me ≡ b = item_is live_id k.lives b z at in
        known_begun b (subst (Knows k tr0) me (known u.node k may.1.up z (subst (λ c. live_at k c ≡ Some z) (sym me) at)))

    -- a branch that is not live has neither changes nor calls
    pub nothing_kept : (b : BranchId) → live_at k b ≡ None → (sets_at k.owns b ≡ []) × (work_at k b ≡ no_work b)
    nothing_kept b none = (
      ap sets_of ((changes_are_of_live s0 lawful0 u.node k may.1.up).live b none),
      ap (work_or b) ((kept_alone CallsSo calls_keep s0 lawful0 u.node k may.1.up).1.there b none),
    )

    -- nor is any told of one that begins
    new_known : (b : BranchId) (s : Seen) → live_at k b ≡ None → seen_at trb b ≡ Some s → s.exit ≡ None → s.runs ≡ [] → s.savepoints ≡ [] → s.taken ≡ 0 → Knows k1 trb b
    new_known b s none at alive runs savepoints taken =
        let kept = nothing_kept b none in
        heard_knows k u.input trb b (record {
          seen = s;
          at = at;
          live = alive;
          runs = subst₂ (λ rs n. RunsAre rs n (sets_at k.owns b) (work_at k b).marks.notes) (sym runs) (sym taken)
              (subst₂ (λ sets (w : Work). RunsAre [] 0 sets w.marks.notes) (sym kept.0) (sym kept.1) (record { changes = refl; reads = tt; steps = refl; rises = tt }));
          savepoints = savepoints ∙ sym (ap (λ (w : Work). w.marks.savepoints) kept.1);
          taken = λ below. taken ∙ sym (ap (λ (w : Work). w.came.last_call) kept.1);
          counts = λ top l live. absurd (cc (live, none));
          fresh = λ gone. taken;
        })

    -- ---- roots

    pub range : (n : ℕ) (s : Stmt) → IsCall u.input n s → IsSession n
    range n s call = (call_free f0 k u.node u.input u.took n (Some s) call may.1.comes).0

    seen_none : (o : Option Seen) (b : Option BranchId) → b ≡ None → IsSeenRoot tr0 k o b → o ≡ None
    seen_none None b none seen = refl
    seen_none (Some s) None none seen = absurd seen
    seen_none (Some s) (Some b) none seen = absurd cc

    pub session_seen : (n : ℕ) (s : Stmt) → IsCall u.input n s → IsSeenRoot tr0 k (root_at tr0 u.node n) (session_at k.sessions n).root
    session_seen n s call = roots.roots u.node k may.1.up n (range n s call) (call_free f0 k u.node u.input u.took n (Some s) call may.1.comes).1

    number : p.number ≡ u.node
    number = number_is t.places t.commands t.of_a_script.each f0 u.node k (run_stands s0 lawful0).1.many may.1.up

    module _ (uncut : u.cut ≡ false) where
      -- a root that begins is told to begin
      root_told : (b : BranchId) (root : NewRoot p u.input k1 b) → (n : ℕ) (s : Stmt) → IsCall u.input n s → (seen_at trb b ≡ Some (root_seen f0 u.node root.statement b)) × (root_at trb u.node n ≡ Some (root_seen f0 u.node root.statement b))
      root_told b root n s call =
          let m : ℕ = root.session in
          let calls : inputs.Call m (Some root.statement) ≡ inputs.Call n (Some s) = sym root.call ∙ call in
          let same_session : m ≡ n = cc in
          let same : k1 ≡ k = ap (heard k) root.call in
          let is_new = new_is p u.input range k1 (heard_fits k fits u.input) b root in
          let none : (session_at k.sessions m).root ≡ None = subst (λ j. (session_at j.sessions m).root ≡ None) same is_new.1 in
          let b_is : b ≡ new_root p k m = is_new.0 ∙ ap (λ j. new_root p j m) same in
          let names = roots.next u.node k may.1.up m (range m root.statement root.call) none in
          let free : root_at tr0 u.node m ≡ None = seen_none (root_at tr0 u.node m) (session_at k.sessions m).root none (session_seen m root.statement root.call) in
          let unseen : seen_at tr0 b ≡ None = ap (seen_at tr0) b_is ∙ names.1 in
          let begins : begun_in_turn f0 tr0 u ≡ root_seen f0 u.node root.statement b ∷ [] = ap (λ c. if c then [] else roots_begun f0 tr0 u.node u.input ++ children_begun f0 tr0 u.input u.sent) uncut
          ∙ (ap (λ i. roots_begun f0 tr0 u.node i ++ children_begun f0 tr0 i u.sent) root.call
          ∙ (ap (λ q. (if q && is_none (root_at tr0 u.node m) then root_seen f0 u.node root.statement (next_root f0 tr0 u.node m) ∷ [] else []) ++ []) (may_so root.statement root.begins)
          ∙ (ap (λ (o : Option Seen). (if is_none o then root_seen f0 u.node root.statement (next_root f0 tr0 u.node m) ∷ [] else []) ++ []) free ∙ ap (λ c. root_seen f0 u.node root.statement c ∷ []) (names.0 ∙ sym b_is)))) in
          let here : is_root_of u.node m (root_seen f0 u.node root.statement b) ≡ true = ap (λ c. is_root_of u.node m (root_seen f0 u.node root.statement c)) b_is ∙ (ap (λ q. (q && true) && (true && (m == m))) (eq-eqb p.number u.node number) ∙ eq-eqb m m refl) in (
            ap (λ xs. item_at seen_id (tr0.seen ++ xs) b) begins ∙ find_last (is_item_of seen_id b) tr0.seen (root_seen f0 u.node root.statement b) unseen (same_from_equal b b refl),
            subst (λ i. root_at trb u.node i ≡ Some (root_seen f0 u.node root.statement b)) same_session
                (ap (λ xs. find (is_root_of u.node m) (tr0.seen ++ xs)) begins ∙ find_last (is_root_of u.node m) tr0.seen (root_seen f0 u.node root.statement b) free here),
          )

      -- so the transaction of the session that calls is told
      pub roots_are : (j : NodeState) → From p u.input k1 j → RootsAre trb u.node u.input j
      roots_are j from m s b call rows has = elim (has_at p u.input range from (heard_fits k fits u.input) m s b call has) [
        | inl there ↦ (
            let same : k1 ≡ k = ap (heard k) call in
            let has_it : HasRoot k m b = subst (λ i. HasRoot i m b) same there in
            let it = seen_root tr0 k (root_at tr0 u.node m) (session_at k.sessions m).root b has_it (session_seen m s call) in
            (it.0, find_more (is_root_of u.node m) tr0.seen _ it.0 it.1, it.2)
            )
        | inr root ↦ (root_seen f0 u.node root.statement b, (root_told b root m s call).1, refl)
      ]

      -- an Exec goes to a branch below another
      pub exec_below : (from b : BranchId) (call : ℕ) (task : Task) → Came u.input from b (kinds.Exec call task) → (z : Live) → live_at k1 b ≡ Some z → (it : Knows k1 trb b) → it.seen.parent ≢ None
      exec_below from b call task came z live it top =
          let at : live_at k b ≡ Some z = lives_back b z live in
          let me : z.me ≡ b = item_is live_id k.lives b z at in
          let below : z.parent ≢ None = asked_parent (births_of s0) k (nodes_name_the_born s0 lawful0 u.node k may.1.up) from b
          (came_so (GoesSo (Began (births_of s0))) f0 (messages_are_of_neighbors s0 lawful0) k u.node u.input u.took may.1.comes from b (kinds.Exec call task) came) z at in
          let told = lower_at t whole hs part0 u.node k may.1.up z (subst (λ c. live_at k c ≡ Some z) (sym me) at) below in
          let there : seen_at trb b ≡ Some told.0 = find_more (is_item_of seen_id b) tr0.seen _ told.0 (subst (λ c. seen_at tr0 c ≡ Some told.0) me told.1) in
          let both : Some told.0 ≡ Some it.seen = sym there ∙ it.at in
          let one : told.0 ≡ it.seen = cc in
          below (sym told.2.parent ∙ (ap (λ (s : Seen). s.parent) one ∙ top))

      -- so is the branch of a statement that no call brought
      pub run_below : {j : NodeState} {x : Branch} {s : Stmt} {given : ℕ} → From p u.input k1 j → Asked j u.input x s given → ((m : ℕ) (st : Stmt) → IsCall u.input m st → ⊥) → (it : Knows k1 trb x.live.me) → it.seen.parent ≢ None
      run_below from (By_call n x s call rows has code found _) no_call it = absurd (no_call n s call)
      run_below (Begun n st read_at call begins new from) (By_exec x sender its_call given advice s came found runs) no_call it = absurd (no_call n st call)
      run_below (Counted n st call counts from) (By_exec x sender its_call given advice s came found runs) no_call it = absurd (no_call n st call)
      run_below (Itself j) (By_exec x sender its_call given advice s came found runs) no_call it =
          exec_below sender x.live.me its_call (tasks.Run given advice s) came x.live (live_so j x.live.me x found) it

      -- ---- each live branch after the turn

      pub opens_by : (l : Live) → live_at d.after l.me ≡ Some l → Grows k p u.input (λ b. born_at (births_of s0) b ≡ None) d.says l
      opens_by l live = (kids.grown t whole hs u more is tells).0.each l.me l live

      pub knows_after : (l : Live) → live_at d.after l.me ≡ Some l → Knows k1 trb l.me
      knows_after l live = by (live_at k1 l.me) refl
        where
          new : live_at k l.me ≡ None → IsOfThese p u.input l.me k1 l → Knows k1 trb l.me
          new none (inl there) = old_known l.me there.0 there.1
          new none (inr (inl root)) = new_known l.me (root_seen f0 u.node root.statement l.me) none (root_told l.me root root.session root.statement root.call).0 refl refl refl refl
          new none (inr (inr below)) = elim ((opens_by l live).new none) [
            | inl top ↦ absurd (below top)
            | inr opened ↦ new_known l.me (newly_seen l.me opened.root (Some opened.parent) (strength_at f0 l.me.node) opened.read_at) none (kids.opened_begun t whole hs u more is tells uncut l opened) refl refl refl refl
          ]

          by : (o : Option Live) → live_at k1 l.me ≡ o → Knows k1 trb l.me
          by (Some z) there = old_known l.me z there
          by None none = new (ap (λ (ls : List Live). item_at live_id ls l.me) (sym (heard_same u.input).2) ∙ none) (lives_on p u.input l.me step l live)

      -- ---- the calls that a branch below a root took

      pub calls_below : (l : Live) → live_at d.after l.me ≡ Some l → (s : Seen) → seen_at trb l.me ≡ Some s → s.exit ≡ None → s.parent ≢ None → s.taken ≡ last_of k1 l.me → taken_after u.node s u.input ≡ last_of d.after l.me
      calls_below l live s at alive below taken = elim (exec_to l.me u.input) [
        | inl exec ↦ by_exec exec.0 exec.1 exec.2 exec.3 exec.4
        | inr not_to ↦ taken_same u.node s u.input (λ from call task came. not_to from call task (subst (λ c. Came u.input from c (kinds.Exec call task)) me came)) not_called
            ∙ (taken ∙ sym (calls_on p u.input l.me not_to step l live))
      ]
        where
          me : s.me ≡ l.me
          me = item_is seen_id trb.seen l.me s at

          not_called : (m : ℕ) (st : Stmt) → u.input ≡ inputs.Call m (Some st) → (is_root_of u.node m s && is_counted st) ≡ false
          not_called m st call = and_left (is_root_of u.node m s) (is_counted st) (and_right (is_live_at u.node s) (is_none s.parent && (s.me.session == m)) (and_left (is_none s.parent) (s.me.session == m) (some_there s.parent below)))

          by_exec : (from : BranchId) (call : ℕ) (task : Task) (scn : ℕ) → u.input ≡ inputs.Message (record { from = from; to = l.me; scn = scn; kind = kinds.Exec call task }) → taken_after u.node s u.input ≡ last_of d.after l.me
          by_exec from call task scn came =
              let m : Msg = record { from = from; to = l.me; scn = scn; kind = kinds.Exec call task } in
              let z = was_live_there (live_at k1 l.me) refl (lives_on p u.input l.me step l live) in
              let told : taken_after u.node s (inputs.Message m) ≡ max s.taken call = ap (λ q. if q && is_live s then max s.taken call else s.taken) (same_from_equal l.me s.me (sym me)) ∙ ap (λ o. if is_none o then max s.taken call else s.taken) alive in
              ap (taken_after u.node s) came ∙ (told ∙ (ap (λ a. max a call) (taken ∙ ap (λ i. last_of (heard k i) l.me) came) ∙ (sym (took z) ∙ sym (ap (λ i. last_of (draft_of p k i).after l.me) came))))
            where
              opened_not : IsOpened k p u.input (λ b. born_at (births_of s0) b ≡ None) d.says l → ⊥
              opened_not opened = true≢false (sym (ap brings_exec came) ∙ ap brings_exec opened.came.is)

              was_live_there : (o : Option Live) → live_at k1 l.me ≡ o → IsOfThese p u.input l.me k1 l → (z : Live) × (live_at k l.me ≡ Some z)
              was_live_there (Some z) there these = (z, lives_back l.me z there)
              was_live_there None none (inl there) = (there.0, lives_back l.me there.0 there.1)
              was_live_there None none (inr (inl root)) = (let call_it = root.call in absurd (cc (came, call_it)))
              was_live_there None none (inr (inr down)) = elim ((opens_by l live).new (ap (λ (ls : List Live). item_at live_id ls l.me) (sym (heard_same u.input).2) ∙ none)) [
                | inl top ↦ absurd (down top)
                | inr opened ↦ absurd (opened_not opened)
              ]

              took : ((z : Live) × (live_at k l.me ≡ Some z)) → last_of (draft_of p k (inputs.Message (record { from = from; to = l.me; scn = scn; kind = kinds.Exec call task }))).after l.me
                  ≡ max (last_of (heard k (inputs.Message (record { from = from; to = l.me; scn = scn; kind = kinds.Exec call task }))) l.me) call
              took there =
                  let k2 : NodeState = heard k (inputs.Message (record { from = from; to = l.me; scn = scn; kind = kinds.Exec call task })) in
                  let z : Live = there.0 in
                  let z_me : z.me ≡ l.me = item_is live_id k.lives l.me z there.1 in
                  let z_live : live_at k2 z.me ≡ Some z = subst (λ c. live_at k c ≡ Some z) (sym z_me) there.1 in
                  let x : Branch = record { live = z; work = work_at k2 z.me } in
                  let found : branch_at k2 z.me ≡ Some x = ap (with_work k2) z_live in
                  subst (λ c. last_of (kind_turn p k2 from c (kinds.Exec call task) (status_of k2 c)).after c ≡ max (last_of k2 c) call) z_me
                  (subst (λ stand. last_of (kind_turn p k2 from z.me (kinds.Exec call task) stand).after z.me ≡ max (last_of k2 z.me) call) (sym (stands_live k2 x found)) (exec_took p k2 x found from call task))

      -- the changes that are told of it before the turn
      pub own_before : (l : Live) → live_at d.after l.me ≡ Some l → own_at tr0 l.me ≡ own_changes k1 l.me
      own_before l live = by (seen_at tr0 l.me) refl
        where
          it : Knows k1 trb l.me
          it = knows_after l live

          unseen : seen_at tr0 l.me ≡ None → (o : Option Live) → live_at k l.me ≡ o → [] ≡ own_changes k1 l.me
          unseen none None gone = sym (ap changes_of (nothing_kept l.me gone).0) ∙ ap (λ os. changes_at os l.me) (sym (heard_owns k u.input))
          unseen none (Some z) there =
              let me : z.me ≡ l.me = item_is live_id k.lives l.me z there in
              let told = known u.node k may.1.up z (subst (λ c. live_at k c ≡ Some z) (sym me) there) in
              let at : seen_at tr0 l.me ≡ Some told.seen = subst (λ c. seen_at tr0 c ≡ Some told.seen) me told.at in
              absurd (cc (at, none))

          by : (o : Option Seen) → seen_at tr0 l.me ≡ o → own_of o ≡ own_changes k1 l.me
          by None none = unseen none (live_at k l.me) refl
          by (Some s) at =
              let both : Some s ≡ Some it.seen = sym (find_more (is_item_of seen_id l.me) tr0.seen _ s at) ∙ it.at in
              let one : it.seen ≡ s = cc in
              subst (λ (y : Seen). own_of (Some y) ≡ own_changes k1 l.me) one (known_own k1 trb l.me it)

      -- where a branch that was live was not told to read at an SCN, it is not
      pub newest_old : (l : Live) (live : live_at d.after l.me ≡ Some l) (z : Live) → live_at k1 l.me ≡ Some z → read_at_at tr0 l.me ≡ None → (knows_after l live).seen.read_at ≡ None
      newest_old l live z there newest =
          let it : Knows k1 trb l.me = knows_after l live in
          let at : live_at k l.me ≡ Some z = lives_back l.me z there in
          let me : z.me ≡ l.me = item_is live_id k.lives l.me z at in
          let told = known u.node k may.1.up z (subst (λ c. live_at k c ≡ Some z) (sym me) at) in
          let before : seen_at tr0 l.me ≡ Some told.seen = subst (λ c. seen_at tr0 c ≡ Some told.seen) me told.at in
          let both : Some told.seen ≡ Some it.seen = sym (find_more (is_item_of seen_id l.me) tr0.seen _ told.seen before) ∙ it.at in
          let one : told.seen ≡ it.seen = cc in
          ap (λ (s : Seen). s.read_at) (sym one) ∙ (sym (ap read_at_of before) ∙ newest)

      -- where a root begins with a statement of rows, it reads the newest rows
      pub newest_new : (l : Live) (live : live_at d.after l.me ≡ Some l) (root : NewRoot p u.input k1 l.me) → IsOfRows root.statement → (knows_after l live).seen.read_at ≡ None
      newest_new l live root rows =
          let it : Knows k1 trb l.me = knows_after l live in
          let both : Some (root_seen f0 u.node root.statement l.me) ≡ Some it.seen = sym (root_told l.me root root.session root.statement root.call).0 ∙ it.at in
          let one : root_seen f0 u.node root.statement l.me ≡ it.seen = cc in
          ap (λ (s : Seen). s.read_at) (sym one) ∙ rows_newest (clock_of (node_at f0 u.node)) root.statement rows

      -- the branch that runs a statement, and was not told to read at an SCN, does not
      pub newest_before : {j : NodeState} {x : Branch} {s : Stmt} {given : ℕ} → From p u.input k1 j → Asked j u.input x s given → (l : Live) (live : live_at d.after l.me ≡ Some l) → l.me ≡ x.live.me
          → read_at_at tr0 l.me ≡ None → (knows_after l live).seen.read_at ≡ None
      newest_before (Itself j) (By_exec x sender its_call given advice s came found runs) l live me newest = newest_old l live x.live (subst (λ c. live_at j c ≡ Some x.live) (sym me) (live_so j x.live.me x found)) newest
      newest_before (Begun n st read_at call begins new from) (By_exec x sender its_call given advice s came found runs) l live me newest = (let one : u.input ≡ inputs.Call n (Some st) = call in let two = came.is in absurd (cc (one, two)))
      newest_before (Counted n st call counts from) (By_exec x sender its_call given advice s came found runs) l live me newest = (let one : u.input ≡ inputs.Call n (Some st) = call in let two = came.is in absurd (cc (one, two)))
      newest_before from (By_call n x s call rows has code found _) l live me newest = either (live_at k l.me) refl
        where
          by : live_at k l.me ≡ None → IsOfThese p u.input l.me k1 l → (knows_after l live).seen.read_at ≡ None
          by none (inl there) = newest_old l live there.0 there.1 newest
          by none (inr (inl root)) = (let calls : inputs.Call n (Some s) ≡ inputs.Call root.session (Some root.statement) = sym call ∙ root.call in let one : s ≡ root.statement = cc in newest_new l live root (subst IsOfRows one rows))
          by none (inr (inr below)) = elim ((opens_by l live).new none) [
            | inl top ↦ absurd (below top)
            | inr opened ↦ (let came = opened.came.is in let one : u.input ≡ inputs.Call n (Some s) = call in absurd (cc (came, one)))
          ]

          either : (o : Option Live) → live_at k l.me ≡ o → (knows_after l live).seen.read_at ≡ None
          either (Some z) there = newest_old l live z (ap (λ (ls : List Live). item_at live_id ls l.me) (heard_same u.input).2 ∙ there) newest
          either None none = by none (lives_on p u.input l.me step l live)

      -- what was told before of where it reads is told after it
      pub reads_before : {j : NodeState} {x : Branch} {s : Stmt} {given : ℕ} → From p u.input k1 j → Asked j u.input x s given → (l : Live) (live : live_at d.after l.me ≡ Some l) → l.me ≡ x.live.me
          → read_at_at tr0 l.me ≡ (knows_after l live).seen.read_at
      reads_before from asked l live me = by (seen_at tr0 l.me) refl
        where
          it : Knows k1 trb l.me
          it = knows_after l live

          by : (o : Option Seen) → seen_at tr0 l.me ≡ o → read_at_of o ≡ it.seen.read_at
          by None none = sym (newest_before from asked l live me (ap read_at_of none))
          by (Some y) at =
              let both : Some y ≡ Some it.seen = sym (find_more (is_item_of seen_id l.me) tr0.seen _ y at) ∙ it.at in
              let one : y ≡ it.seen = cc in
              ap (λ (z : Seen). z.read_at) one

      -- it is told to read where its node says that it does
      pub reads_after : (l : Live) (live : live_at d.after l.me ≡ Some l) → (knows_after l live).seen.read_at ≡ l.read_at
      reads_after l live = by (live_at k l.me) refl
        where
          it : Knows k1 trb l.me
          it = knows_after l live

          one_seen : (s : Seen) → seen_at trb l.me ≡ Some s → s ≡ it.seen
          one_seen s at = (let both : Some s ≡ Some it.seen = sym at ∙ it.at in cc)

          old : (z : Live) → live_at k l.me ≡ Some z → it.seen.read_at ≡ l.read_at
          old z there =
              let me : z.me ≡ l.me = item_is live_id k.lives l.me z there in
              let z_live : live_at k z.me ≡ Some z = subst (λ c. live_at k c ≡ Some z) (sym me) there in
              let grown = (opens_by l live).old z there in
              by_parent z me z_live grown.2 z.parent refl
            where
              traced : (s : Seen) (z : Live) → z.me ≡ l.me → seen_at tr0 z.me ≡ Some s → s.read_at ≡ z.read_at → l.read_at ≡ z.read_at → it.seen.read_at ≡ l.read_at
              traced s z me at reads same =
                  let there : seen_at trb l.me ≡ Some s = find_more (is_item_of seen_id l.me) tr0.seen _ s (subst (λ c. seen_at tr0 c ≡ Some s) me at) in
                  sym (ap (λ (y : Seen). y.read_at) (one_seen s there)) ∙ (reads ∙ sym same)

              by_parent : (z : Live) → z.me ≡ l.me → live_at k z.me ≡ Some z → l.read_at ≡ z.read_at → (o : Option BranchId) → z.parent ≡ o → it.seen.read_at ≡ l.read_at
              by_parent z me z_live same None top = (let so = roots.tops u.node k may.1.up z z_live top in traced so.0 z me so.1 so.2.read_at same)
              by_parent z me z_live same (Some q) above = (let so = lower_at t whole hs part0 u.node k may.1.up z z_live (λ none. absurd (cc (above, none))) in traced so.0 z me so.1 so.2.read_at same)

          new : live_at k l.me ≡ None → IsOfThese p u.input l.me k1 l → it.seen.read_at ≡ l.read_at
          new none (inl there) = (let gone = lives_back l.me there.0 there.1 in absurd (cc (gone, none)))
          new none (inr (inl root)) = elim ((opens_by l live).new none) [
            | inl top ↦ sym (ap (λ (y : Seen). y.read_at) (one_seen (root_seen f0 u.node root.statement l.me) (root_told l.me root root.session root.statement root.call).0))
                ∙ (ap (λ o. read_at_by (clock_of o) root.statement) may.1.up ∙ sym (((opens_by l live).begun none top).reads root.session root.statement root.call))
            | inr opened ↦ (let came = opened.came.is in let call = root.call in absurd (cc (came, call)))
          ]
          new none (inr (inr below)) = elim ((opens_by l live).new none) [
            | inl top ↦ absurd (below top)
            | inr opened ↦ sym (ap (λ (y : Seen). y.read_at) (one_seen (newly_seen l.me opened.root (Some opened.parent) (strength_at f0 l.me.node) opened.read_at) (kids.opened_begun t whole hs u more is tells uncut l opened))) ∙ sym opened.reads
          ]

          by : (o : Option Live) → live_at k l.me ≡ o → it.seen.read_at ≡ l.read_at
          by (Some z) there = old z there
          by None none = new none (lives_on p u.input l.me step l live)

      -- and below the branch of which its node says so
      pub parents_after : (l : Live) (live : live_at d.after l.me ≡ Some l) → (knows_after l live).seen.parent ≡ l.parent
      parents_after l live = by (live_at k l.me) refl
        where
          it : Knows k1 trb l.me
          it = knows_after l live

          one_seen : (s : Seen) → seen_at trb l.me ≡ Some s → s ≡ it.seen
          one_seen s at = (let both : Some s ≡ Some it.seen = sym at ∙ it.at in cc)

          old : (z : Live) → live_at k l.me ≡ Some z → it.seen.parent ≡ l.parent
          old z there =
              let me : z.me ≡ l.me = item_is live_id k.lives l.me z there in
              let z_live : live_at k z.me ≡ Some z = subst (λ c. live_at k c ≡ Some z) (sym me) there in
              let grown = (opens_by l live).old z there in
              by_parent z me z_live grown.1 z.parent refl
            where
              traced : (s : Seen) (z : Live) → z.me ≡ l.me → seen_at tr0 z.me ≡ Some s → s.parent ≡ z.parent → l.parent ≡ z.parent → it.seen.parent ≡ l.parent
              traced s z me at reads same =
                  let there : seen_at trb l.me ≡ Some s = find_more (is_item_of seen_id l.me) tr0.seen _ s (subst (λ c. seen_at tr0 c ≡ Some s) me at) in
                  sym (ap (λ (y : Seen). y.parent) (one_seen s there)) ∙ (reads ∙ sym same)

              by_parent : (z : Live) → z.me ≡ l.me → live_at k z.me ≡ Some z → l.parent ≡ z.parent → (o : Option BranchId) → z.parent ≡ o → it.seen.parent ≡ l.parent
              by_parent z me z_live same None top = (let so = roots.tops u.node k may.1.up z z_live top in traced so.0 z me so.1 so.2.parent same)
              by_parent z me z_live same (Some q) above = (let so = lower_at t whole hs part0 u.node k may.1.up z z_live (λ none. absurd (cc (above, none))) in traced so.0 z me so.1 so.2.parent same)

          new : live_at k l.me ≡ None → IsOfThese p u.input l.me k1 l → it.seen.parent ≡ l.parent
          new none (inl there) = (let gone = lives_back l.me there.0 there.1 in absurd (cc (gone, none)))
          new none (inr (inl root)) = elim ((opens_by l live).new none) [
            | inl top ↦ sym (ap (λ (y : Seen). y.parent) (one_seen (root_seen f0 u.node root.statement l.me) (root_told l.me root root.session root.statement root.call).0)) ∙ sym top
            | inr opened ↦ (let came = opened.came.is in let call = root.call in absurd (cc (came, call)))
          ]
          new none (inr (inr below)) = elim ((opens_by l live).new none) [
            | inl top ↦ absurd (below top)
            | inr opened ↦ sym (ap (λ (y : Seen). y.parent) (one_seen (newly_seen l.me opened.root (Some opened.parent) (strength_at f0 l.me.node) opened.read_at) (kids.opened_begun t whole hs u more is tells uncut l opened))) ∙ sym opened.is_parent
          ]

          by : (o : Option Live) → live_at k l.me ≡ o → it.seen.parent ≡ l.parent
          by (Some z) there = old z there
          by None none = new none (lives_on p u.input l.me step l live)
