-- Each step of a node passes refusals of gone branches on, and calls a child only after an answer that is none.
use Rattle.std.proofs.Common.{◌≡◌, ◌≢◌, ℕ, zero, suc, ◌+◌, ◌<◌, ◌≤◌, ◌&&◌, Bool, true, false, if◌then◌else◌, List, [], map, length, is_none, Option, Some, None, inl, inr, refl, sym, ap, subst, ◌∙◌, arith}
use Rattle.std.proofs.lemmas.Bool.{cond_both}
use Rattle.tran_ids.proofs.ListedLemmas.{item_is, put_found}
use Rattle.link_session.proofs.OnceLemmas.{run_is_new}
use Rattle.commit_forget.specs.declared.next.Next.TheVariants as nexts
use Rattle.session_tree.specs.Live.{children_of, peer_of, new_edge, next_edge, fresh_live}
use Rattle.session_tree.specs.Tree.{step as step_from}
use Rattle.node_rules.specs.Data.{Stmt, Answer, BranchId, Edge, Live, Act, Kind, Post, ReplyFields, Place, Input, Task}
use Rattle.node_rules.specs.Data.acts
use Rattle.node_rules.specs.Data.admits
use Rattle.node_rules.specs.Data.answers
use Rattle.node_rules.specs.Data.kinds
use Rattle.node_rules.specs.Data.stmts
use Rattle.node_rules.specs.Data.tasks
use Rattle.node_rules.specs.declared.work.Errand.TheVariants as errands
use Rattle.node_rules.specs.declared.session.Session.{Session}
use Rattle.node_rules.specs.declared.session.PendingCall.TheVariants as pending
use Rattle.node_rules.specs.declared.work.Work.{Work}
use Rattle.node_rules.specs.Words.{one, numbered, put_item}
use Rattle.node_rules.specs.Refusals.{dtx}
use Rattle.node_rules.specs.Inputs.{Came, IsCall}
use Rattle.node_rules.specs.NodeState.{NodeState, Branch, TurnDraft, live_id, work_id, live_at, branch_at, post, to_one, to_each, no_work}
use Rattle.node_rules.specs.Sessions.{session_at, with_call, needs_rollback}
use Rattle.node_rules.specs.Names.{passed_on}
use Rattle.node_rules.specs.Statement.{ran}
use Rattle.node_rules.specs.Calls.{reply_fields, kept_reply, with_answer, answer_says, next_child, strength_of, with_edge, waits_for_opened, hears_reply, nobody_at, is_gone, heard_answer, heard_sessions, answered_sessions, call_pends, branch_ran, less_room, admit}
use Rattle.node_rules.specs.Client.{new_root, fresh_root, begun_by, counted, gives_up, marked}
use Rattle.node_rules.specs.Marks.{node_back}
use Rattle.node_rules.specs.Prepare.{path_of, with_prepare_sent, has_voted, answers_first, site_neighbors, ready, act_turn}
use Rattle.node_rules.specs.Commit.{beyond}
use Rattle.node_rules.proofs.Steps as steps
use Rattle.node_rules.proofs.Steps.{Step, Asked, Acting, Goes_to, Calls_back, IsNoRefusal}
use Rattle.node_rules.proofs.StandLemmas.{live_so, call_set}
use Rattle.node_rules.proofs.StepLemmas.{acting_so}
use Rattle.node_rules.specs.LiveBranches.{works_of}
use Rattle.node_rules.proofs.LiveLemmas.{each_changed, each_begun, branch_parts, work_is}
use Rattle.run_base_laws.specs.InTurnLaws.{newest_exec, newest_reply, call_at}
use Rattle.run_rules.proofs.ListLemmas.{all_append}
use Rattle.run_base_laws.proofs.RootLemmas.{SessionsFit, root_alone, pends_so, begun_so, counted_so, back_so}
use Rattle.run_base_laws.proofs.NeighborLemmas.{News, reply_is}
use Rattle.run_base_laws.proofs.NeighborStepLemmas.{begun_news, pends_news, lets_news, acked_news, counted_news, back_news}
use Rattle.run_base_laws.proofs.KindSayLemmas.{AllSay, one_says, each_says, prepares_say, passes_say}
use Rattle.run_base_laws.proofs.InTurnLemmas as turns
use Rattle.run_base_laws.proofs.InTurnLemmas.{length_peers, reply_for, none_waits}
use Rattle.run_base_laws.proofs.InTurnEdgeLemmas.{opened_free, heard_free, calling_free}
use Rattle.run_base_laws.proofs.InTurnStepLemmas as drafts
use Rattle.run_base_laws.proofs.TurnEventLemmas.{cases_nat}
use Rattle.tree_laws.proofs.HoldLemmas.{given_code}
use Rattle.tree_cover_laws.specs.GoneLaws.{ToldWell, HasGone, CallsWell}
use Rattle.tree_cover_laws.proofs.WellLemmas.{well_more, IsIdle, idle_decisions, idle_quiet, idle_execs, calls_stay, Well, opened_well, heard_well, no_call}
use Rattle.tree_cover_laws.proofs.WellDraftLemmas as draft
use Rattle.tree_laws.proofs.HoldLemmas.{code_at}
use Rattle.tree_laws.proofs.FrozenLemmas.{edge_to as edge_there}

-- ---- the code of a root that hears such a refusal

refused_code : (ss : List Session) (n code : ℕ) (b : BranchId) → (session_at ss n).root ≡ Some b → (session_at (with_call (needs_rollback ss n code) n pending.NoCall) n).code ≡ None → ⊥
refused_code ss n code b has none =
    let set : session_at (needs_rollback ss n code) n ≡ record (session_at ss n) { code = Some code } = code_at ss n code b (numbered ss n) refl has in
    let root : (session_at (needs_rollback ss n code) n).root ≡ Some b = ap (λ s. s.root) set ∙ has in
    let free : (session_at (with_call (needs_rollback ss n code) n pending.NoCall) n).code ≡ Some code = ap (λ s. s.code) (call_set (needs_rollback ss n code) n b pending.NoCall root) ∙ ap (λ s. s.code) set in
    absurd (cc (free, none))

heard_code : (ss : List Session) (l : Live) (a : Answer) → l.parent ≡ None → is_gone a ≡ true → (session_at ss l.me.session).root ≡ Some l.me
    → (session_at (answered_sessions (heard_sessions ss l a) l l.parent) l.me.session).code ≡ None → ⊥
heard_code ss l a root gone has none =
    let test : (is_none l.parent && is_gone a) ≡ true = ap (λ o. is_none o && is_gone a) root ∙ gone in
    let heard : heard_sessions ss l a ≡ needs_rollback ss l.me.session (dtx 8 []).code = ap (λ q. if q then needs_rollback ss l.me.session (dtx 8 []).code else ss) test in
    refused_code ss l.me.session (dtx 8 []).code l.me has
    (subst (λ xs. (session_at (with_call xs l.me.session pending.NoCall) l.me.session).code ≡ None) heard (subst (λ o. (session_at (answered_sessions (heard_sessions ss l a) l o) l.me.session).code ≡ None) root none))

-- below a root it is passed on
passed_answer : (l : Live) (link : List ℕ) (a : Answer) (q : BranchId) → l.parent ≡ Some q → is_gone a ≡ true → is_gone (heard_answer l link a) ≡ true
passed_answer l link a q above gone =
    let test : (is_none l.parent && is_gone a) ≡ false = ap (λ o. is_none o && is_gone a) above in
    subst (λ b. is_gone b ≡ true) (sym (ap (λ w. if w then answers.Refused (dtx 8 (one link)) else a) test)) gone

-- ---- edges

module _ (E : BranchId → Option ℕ) (A : BranchId → Option BranchId) (G Here : BranchId → Type 0) (input : Input) (said : List Post) (received : turns.Received E A G Here input said) where
  abbrev Begun : Live → Work → Type 0
  Begun = draft.Begun E A G Here input said received

  abbrev Nodes : NodeState → Type 0
  Nodes = draft.Nodes E A G Here input said received

  abbrev FreeOf : Branch → Type 0
  FreeOf = draft.FreeOf E A G Here input said received

  abbrev Goes : Live → Type 0
  Goes = draft.Goes E A G Here input said received

  abbrev Old : Live → Work → Type 0
  Old = draft.Old E A G Here input said received

  abbrev Olds : NodeState → Type 0
  Olds = draft.Olds E A G Here input said received

  abbrev Then : List Post → Live → Work → Type 0
  Then = draft.Then E A G Here input said received

  abbrev All : List Post → List Live → List Work → Type 0
  All = draft.All E A G Here input said received

  abbrev pub Leaves : TurnDraft → Type 0
  Leaves = draft.Leaves E A G Here input said received

  module _ (k : NodeState) (calls : CallsWell said) (now : Olds k) where
    -- ---- what is known of a branch

    module _ (ss : SessionsFit k) (nodes : Nodes k) where
      found_old : (x : Branch) → branch_at k x.live.me ≡ Some x → Old x.live x.work
      found_old x found = let parts = branch_parts k x.live.me x found in subst (Old x.live) (sym parts.1) (now.each x.live.me x.live parts.0)

      -- one that waits for nothing, and whose last answer was no such refusal
      told_free : (x : Branch) → branch_at k x.live.me ≡ Some x → x.work.going ≡ None → (HasGone x.work → ⊥) → Well said (Goes x.live) x
      told_free x found none fine goes j e at = elim ((found_old x found).held goes j e at) [
        | inl waits ↦ absurd (none_waits j x.work.going none waits)
        | inr told ↦ elim told [ inl well ↦ well | inr gone ↦ absurd (fine gone) ]
      ]

      exec_free : (x : Branch) (from : BranchId) (call : ℕ) → branch_at k x.live.me ≡ Some x → x.work.came.last_call < call → A x.live.me ≡ Some from → call ≤ newest_exec said from x.live.me → x.work.going ≡ None
      exec_free x from call found new child made =
          let was : Begun x.live x.work = turns.branch_begun E A G Here input said received k nodes x found in
          let parent : x.live.parent ≡ Some from = was.above from child in
          let answered : call ≤ newest_reply said x.live.me + 1 = omega (arith, made, received.all from x.live.me) in
          let told : newest_reply said x.live.me ≤ x.work.came.last_call = was.turn.takes.told in
          let last : newest_reply said x.live.me ≡ x.work.came.last_call = omega (arith, new, answered, told) in
          was.turn.takes.rests (λ none. absurd (cc (parent, none))) last

      -- a branch that gets a new call did not answer the last with such a refusal
      exec_fine : (x : Branch) (from : BranchId) (call : ℕ) → branch_at k x.live.me ≡ Some x → x.work.came.last_call < call → call ≤ newest_exec said from x.live.me → HasGone x.work → ⊥
      exec_fine x from call found new made gone = elim (cases_nat x.work.came.last_call 0) [
        | inl zero_calls ↦ (let none = (found_old x found).first zero_calls in let some = gone.1 in absurd (cc (some, none)))
        | inr other ↦ (let some : 1 ≤ x.work.came.last_call = above_zero x.work.came.last_call other in
            let told = calls from x.live.me x.work.came.last_call some (omega (arith, new, made)) in
            (found_old x found).kept gone told.0 told.1)
      ]
        where
          above_zero : (n : ℕ) → n ≢ 0 → 1 ≤ n
          above_zero zero not = absurd (not refl)
          above_zero (suc n) not = omega arith

      -- the root of a session that calls, and a branch that takes a call
      root_well : (n : ℕ) (x : Branch) (s : Stmt) → IsCall input n s → (session_at k.sessions n).root ≡ Some x.live.me → branch_at k x.live.me ≡ Some x → Well said (Goes x.live) x
      root_well n x s call has live =
          let was : Begun x.live x.work = turns.branch_begun E A G Here input said received k nodes x live in
          let none : x.live.parent ≡ None = root_alone k ss n x.live.me has x.live (live_so k x.live.me x live) in
          let free : x.work.going ≡ None = was.idle none s (subst (λ m. IsCall input m s) (sym (ss.roots.each n x.live.me has)) call) in
          told_free x live free (λ gone. (let some = gone.1 in let unanswered = was.turn.alone none in absurd (cc (some, unanswered))))

      taker_well : (x : Branch) (from : BranchId) (call : ℕ) (task : Task) → Came input from x.live.me (kinds.Exec call task) → branch_at k x.live.me ≡ Some x → admit x.work.came call ≡ admits.Run → Well said (Goes x.live) x
      taker_well x from call task came live runs =
          let so = received.exec from x.live.me call task came in
          let new : x.work.came.last_call < call = run_is_new x.work.came call runs in
          told_free x live (exec_free x from call live new so.0 so.1) (exec_fine x from call live new so.1)

      asked_well : {x : Branch} {s : Stmt} {given : ℕ} → Asked k input x s given → Well said (Goes x.live) x
      asked_well (steps.By_call n x s call rows has code live may) = root_well n x s call has live
      asked_well (steps.By_exec x from call given advice s came live runs) = taker_well x from call (tasks.Run given advice s) came live runs

      goes_well : {x : Branch} {step : ℕ} → Goes_to k input x step → Well said (Goes x.live) x
      goes_well (steps.By_rollback_to n x name step call has code live set) = root_well n x (stmts.RollbackTo name) call has live
      goes_well (steps.By_back x from call keep came live runs) = taker_well x from call (tasks.GoBack keep) came live runs

      -- a root that calls goes on
      asked_goes : {x : Branch} {s : Stmt} {given : ℕ} → Asked k input x s given → (x.live.parent ≡ None → (session_at (call_pends k.sessions x.live) x.live.me.session).code ≡ None → G x.live.me) → Goes x.live
      asked_goes (steps.By_call n x s call rows has code live writes) may none =
          let at : x.live.me.session ≡ n = ss.roots.each n x.live.me has in
          let set : (session_at (with_call k.sessions n pending.Statement) n).code ≡ None = ap (λ s. s.code) (call_set k.sessions n x.live.me pending.Statement has) ∙ code in
          let there : (session_at (with_call k.sessions x.live.me.session pending.Statement) x.live.me.session).code ≡ None = subst (λ m. (session_at (with_call k.sessions m pending.Statement) m).code ≡ None) (sym at) set in
          may none (subst (λ q. (session_at (if q then with_call k.sessions x.live.me.session pending.Statement else k.sessions) x.live.me.session).code ≡ None) (sym (ap is_none none)) there)
      asked_goes (steps.By_exec x from call given advice s came live runs) may none =
          let so = received.exec from x.live.me call (tasks.Run given advice s) came in
          let parent : x.live.parent ≡ Some from = (turns.branch_begun E A G Here input said received k nodes x live).above from so.0 in
          absurd (cc (none, parent))

      -- the child whose turn it is was told well
      told_at : (x : Branch) (i : ℕ) → Goes x.live → Well said (Goes x.live) x → (c : BranchId) → numbered (children_of x.live) i ≡ Some c → 1 ≤ call_at x.work i → (v : Option ℕ) × ToldWell said c (call_at x.work i) v
      told_at x i goes told c at some =
          let e = edge_there x.live.edges i c at in
          (e.0.weight, subst (λ d. ToldWell said d (call_at x.work i) e.0.weight) e.2 (told goes i e.0 e.1))

      -- ---- acts

      acting_old : {l : Live} {b : Bool} {a : Act} → Acting k input l b a → Old l (works_of k.works l.me)
      acting_old why =
          acting_so (λ l. Old l (works_of k.works l.me)) (λ l comment b is. draft.mapped E A G Here input said received with_prepare_sent (λ e. (refl, refl)) l (works_of k.works l.me) is)
          (λ l from v is. draft.mapped E A G Here input said received (has_voted from v) (λ e. cond_both (answers_first from e) (record e { vote = v }) e (λ y. (y.peer ≡ e.peer) × (y.weight ≡ e.weight)) (λ here. (refl, refl)) (λ other. (refl, refl))) l (works_of k.works l.me) is)
          (λ b l found. subst (λ m. Old l (works_of k.works m)) (sym (item_is live_id k.lives b l found)) (now.each b l found)) why

      stays : (l : Live) (says : List Post) → AllSay IsIdle says → Old l (works_of k.works l.me) → All says (put_item live_id k.lives l) k.works
      stays l says idle is =
          (each_changed Old (Then says) k.lives k.works now l (draft.stay E A G Here input said received k calls now says l (works_of k.works l.me) (idle_quiet says l.me idle) is) (λ y v live other so. draft.stay E A G Here input said received k calls now says y v (idle_quiet says y.me idle) so), calls_stay said says (idle_execs says idle) calls, (λ b none. idle_quiet says b idle))

      acts_well : {l : Live} {b : Bool} (a : Act) → Acting k input l b a → Leaves (act_turn k l b a)
      acts_well {l = l} acts.Rest why = stays l [] tt (acting_old why)
      acts_well {l = l} {b = b} acts.AskDown why = stays l _ (prepares_say IsIdle (λ q c. ((λ n v is. is), refl)) l.me l.comment (path_of b (step_from l)) 1 l.edges) (acting_old why)
      acts_well {l = l} acts.SayReady why = stays (ready l) _ (one_says IsIdle l.me kinds.Ready l.parent ((λ n v is. is), refl)) (acting_old why)
      acts_well {l = l} acts.SayReadOnly why = draft.left E A G Here input said received k calls now l.me _ (one_says IsIdle l.me kinds.ReadOnly l.parent ((λ n v is. is), refl))
      acts_well {l = l} acts.Seal why = draft.left E A G Here input said received k calls now l.me _ (one_says IsIdle l.me kinds.Prepared l.parent ((λ n v is. is), refl))
      acts_well {l = l} (acts.SealAndPass i) why = draft.left E A G Here input said received k calls now l.me _ (one_says IsIdle l.me kinds.CommitPoint (peer_of l i) ((λ n v is. is), refl))
      acts_well {l = l} acts.Decide why = draft.left E A G Here input said received k calls now l.me _ (each_says IsIdle l.me (kinds.Committed (k.clock + 1)) (site_neighbors l) ((λ n v is. is), refl))
      acts_well {l = l} acts.Finish why = draft.left E A G Here input said received k calls now l.me [] tt
      acts_well {l = l} acts.Abandon why =
          draft.left E A G Here input said received k calls now l.me _ (all_append (λ x. IsIdle x.kind) (to_one l.me kinds.Abort l.parent) _ (one_says IsIdle l.me kinds.Abort l.parent ((λ n v is. is), refl)) (each_says IsIdle l.me kinds.Rollback (children_of l) ((λ n v is. is), refl)))

  -- ---- every step

  rolled : (l : Live) → AllSay IsIdle (to_each l.me kinds.Rollback (children_of l))
  rolled l = each_says IsIdle l.me kinds.Rollback (children_of l) ((λ n v is. is), refl)

  -- a Reply that came and is no such refusal was told
  abbrev pub Welled : Type 0
  Welled = (from to : BranchId) (call : ℕ) (weight : Option ℕ) (count : ℕ) (a : Answer) → Came input from to (kinds.Reply call weight count a) → is_gone a ≡ false → ToldWell said from call weight

  -- where a message came, live roots are the transactions of their sessions
  abbrev pub Rooted : NodeState → Type 0
  Rooted k = (from to : BranchId) (kind : Kind) → Came input from to kind → (l : Live) → live_at k l.me ≡ Some l → l.parent ≡ None → (session_at k.sessions l.me.session).root ≡ Some l.me

  no_call_came : (k : NodeState) (n : ℕ) (s : Stmt) → IsCall input n s → Rooted k
  no_call_came k n s call from to kind came l live top = absurd (cc (call, came.is))

  -- no refusal is one of a gone branch
  not_gone : (a : Answer) → IsNoRefusal a → is_gone a ≡ false
  not_gone (answers.Refused r) good = absurd good
  not_gone (answers.Found rows) good = refl
  not_gone (answers.Did d n) good = refl

  module _ (welled : Welled) (k : NodeState) (calls : CallsWell said) (now : Olds k) (ss : SessionsFit k) (nodes : Nodes k) where
    -- a Reply that is no such refusal
    heard_fine : (x : Branch) (weight : Option ℕ) (count : ℕ) (a : Answer) (i : ℕ) (e : Edge) → steps.Is_answered k input x weight count a i e → is_gone a ≡ false → Well said (Goes x.live) (hears_reply x i weight count e)
    heard_fine x weight count a i e answered well =
        let over = reply_for x answered.from answered.call i e answered.waits in
        let free : FreeOf (hears_reply x i weight count e) = heard_free E A G Here input said received k nodes x weight count a i e answered in
        heard_well said (Goes x.live) x (found_old k calls now ss nodes x answered.live).held free.unanswered i weight count e answered.from answered.call (reply_is x answered.from answered.call i e answered.waits) over.0
        (welled answered.from x.live.me answered.call weight count a answered.came well) over.1 over.2

    -- a branch whose children are to go back
    calling_well : {x : Branch} {step from : ℕ} → Calls_back k input x step from → Well said (Goes x.live) x
    calling_well (steps.Has_gone j x step goes is) =
        let fits : SessionsFit (node_back j x step) = subst SessionsFit is ss in
        let told : Well said (Goes x.live) x = goes_well j calls (subst Olds is now) (record { roots = fits.roots; above = fits.above }) (subst Nodes is nodes) goes in told
    calling_well (steps.Has_heard x weight count a i e g step answered going errand done) = heard_fine x weight count a i e answered (not_gone a done)

  -- a Reply is heard
  module _ (welled : Welled) (k : NodeState) (calls : CallsWell said) (now : Olds k) (ss : SessionsFit k) (nodes : Nodes k) (rooted : Rooted k) (x : Branch) (weight : Option ℕ) (count : ℕ) (a : Answer) (i : ℕ) (e : Edge)
      (answered : steps.Is_answered k input x weight count a i e) (seen : x.live.parent ≡ None → G x.live.me → (session_at (answered_sessions (heard_sessions k.sessions x.live a) x.live x.live.parent) x.live.me.session).code ≡ None) where
    abbrev y : Branch
    y = hears_reply x i weight count e

    abbrev told_answer : Answer
    told_answer = heard_answer x.live e.link a

    was : Old x.live x.work
    was = found_old k calls now ss nodes x answered.live

    free : FreeOf y
    free = heard_free E A G Here input said received k nodes x weight count a i e answered

    fine : is_gone a ≡ false → Well said (Goes y.live) y
    fine well = heard_fine welled k calls now ss nodes x weight count a i e answered well

    passed : is_gone a ≡ true → Goes y.live → HasGone (with_answer y told_answer).work
    passed gone goes = by x.live.parent refl
      where
        by : (o : Option BranchId) → x.live.parent ≡ o → (t : ReplyFields) × (kept_reply y told_answer o ≡ Some t) × (is_gone t.result ≡ true)
        by (Some q) above = (reply_fields y.live told_answer, refl, passed_answer x.live e.link a q above gone)
        by None top = absurd (heard_code k.sessions x.live a top gone (rooted answered.from x.live.me _ answered.came x.live (live_so k x.live.me x answered.live) top) (seen top (goes top)))

    reply_well : All (answer_says y told_answer y.live.parent) (put_item live_id k.lives y.live) (put_item work_id k.works (with_answer y told_answer).work)
    reply_well = by (is_gone a) refl
      where
        by : (q : Bool) → is_gone a ≡ q → All (answer_says y told_answer y.live.parent) (put_item live_id k.lives y.live) (put_item work_id k.works (with_answer y told_answer).work)
        by false well = draft.answers_well E A G Here input said received k calls now y told_answer (work_is k x.live.me x answered.live) free (fine well)
        by true gone = draft.answers_by E A G Here input said received k calls now y told_answer (work_is k x.live.me x answered.live) free (λ goes j z at. inr (passed gone goes))

  module _ (welled : Welled) (p : Place) (place : (b : BranchId) → b.node ≡ p.number → Here b) where
    pub wells_on : {k : NodeState} {d : TurnDraft} → Step p input k d → drafts.Granted E A G Here input said received d → SessionsFit k → News (drafts.NewBorn E A G Here input said received) p input k → Rooted k → Nodes k → CallsWell said → Olds k → Leaves d
    wells_on (steps.Begins {k = k} n s read_at call begins range none step) granted ss news rooted nodes calls now =
        let root = news.root n s read_at call begins none in
        wells_on step granted (begun_so k ss p n read_at) (begun_news (drafts.NewBorn E A G Here input said received) p input k n read_at news) (no_call_came (begun_by p k n read_at None) n s call)
        (drafts.begins_so E A G Here input said received k nodes (fresh_root p k (new_root p k n) read_at) refl (place (new_root p k n) refl) root) calls
        (each_begun Old Old k.lives k.works now (fresh_root p k (new_root p k n) read_at) (draft.fresh_well E A G Here input said received said (fresh_root p k (new_root p k n) read_at) (no_work (new_root p k n)) refl refl) (λ y v live any is. is))
    wells_on (steps.Counts_call {k = k} n s call counts step) granted ss news rooted nodes calls now =
        wells_on step granted (counted_so k ss n) (counted_news (drafts.NewBorn E A G Here input said received) p input k n news) (no_call_came (counted k n) n s call) nodes calls now
    wells_on (steps.Goes_back {k = k} x step goes next) granted ss news rooted nodes calls now =
        wells_on next granted (back_so k ss x step) (back_news (drafts.NewBorn E A G Here input said received) p input k x step news) rooted nodes calls now
    wells_on (steps.Pends {k = k} n l given call has live code writer step) granted ss news rooted nodes calls now =
        wells_on step granted (pends_so k ss n pending.Commit) (pends_news (drafts.NewBorn E A G Here input said received) p input k n given call news) (no_call_came (record k { sessions = with_call k.sessions n pending.Commit }) n (stmts.Commit given) call) nodes calls now
    wells_on (steps.Lets_reads_go {k = k} l comment b live begins step) granted ss news rooted nodes calls now =
        wells_on step granted (record { roots = ss.roots; above = ss.above }) (lets_news (drafts.NewBorn E A G Here input said received) p input k l.me news) rooted nodes calls now
    wells_on (steps.Counts_ack {k = k} s from kept came counts step) granted ss news rooted nodes calls now =
        wells_on step granted (record { roots = ss.roots; above = ss.above }) (acked_news (drafts.NewBorn E A G Here input said received) p input k _ news) rooted nodes calls now
    wells_on (steps.Sends {k = k} posts why) granted ss news rooted nodes calls now = draft.says_well E A G Here input said received k calls now why
    wells_on (steps.Runs {k = k} x s given t asked way) granted ss news rooted nodes calls now =
        let free : FreeOf x = turns.asked_free E A G Here input said received k ss nodes asked in
        draft.answers_well E A G Here input said received k calls now (branch_ran k.sessions x t (ran p k x.live.me s t)) _ (drafts.asked_mine E A G Here input said received k asked)
        (record { kids = free.kids; taken = free.taken; told = free.told; owes = free.owes; unanswered = free.unanswered; numbers = free.numbers; made = free.made; no_other = free.no_other; heard = free.heard })
        (asked_well k calls now ss nodes asked)
    wells_on (steps.Goes_nowhere {k = k} x s given r asked way) granted ss news rooted nodes calls now =
        draft.answers_well E A G Here input said received k calls now x _ (drafts.asked_mine E A G Here input said received k asked) (turns.asked_free E A G Here input said received k ss nodes asked) (asked_well k calls now ss nodes asked)
    wells_on (steps.Calls {k = k} x s given i table asked way) granted ss news rooted nodes calls now =
        let told = asked_well k calls now ss nodes asked in
        let goes = asked_goes k calls now ss nodes asked (λ none code. granted.grants x.live.me x.live (put_found live_id k.lives x.live) none code) in
        draft.calls_over E A G Here input said received k calls now k.sessions x i (errands.Statement (passed_on s table) given) (drafts.asked_mine E A G Here input said received k asked) (turns.asked_free E A G Here input said received k ss nodes asked) (λ g j e other at. told g j e at)
        (told_at k calls now ss nodes x i goes told)
    wells_on (steps.Opens {k = k} x s given node link table asked way) granted ss news rooted nodes calls now =
        let free : FreeOf x = turns.asked_free E A G Here input said received k ss nodes asked in
        let told = asked_well k calls now ss nodes asked in
        let says : List Post = post x.live.me (nobody_at node) (kinds.Open (next_edge x.live) x.live.root (x.live.depth + 1) x.live.read_at) in (
          draft.put E A G Here input said received k calls now says x.live (waits_for_opened x link (passed_on s table) given).work (drafts.asked_mine E A G Here input said received k asked) (λ b other. idle_quiet says b (((λ n v is. is), refl), tt)) (record {
            held = λ goes j e at. inr (inl (well_more said says e.peer (call_at x.work j) e.weight (told goes j e at)));
            kept = λ gone v tells. (let some = gone.1 in let unanswered = free.unanswered in absurd (cc (some, unanswered)));
            first = λ last. free.unanswered;
          }),
          calls_stay said says (idle_execs says (((λ n v is. is), refl), tt)) calls,
          (λ b none. idle_quiet says b (((λ n v is. is), refl), tt)),
        )
    wells_on (steps.Goes_on {k = k} x from strength g link opened) granted ss news rooted nodes calls now =
        let was : Begun x.live x.work = turns.branch_begun E A G Here input said received k nodes x opened.live in
        let even = was.turn.makes.numbers ∙ length_peers x.live.edges in
        let unanswered : x.work.came.reply ≡ None = was.turn.answered (λ none. (let some = opened.going in absurd (cc (none, some)))) in
        draft.calls_over E A G Here input said received k calls now k.sessions (with_edge x (new_edge from link strength)) (length x.live.edges + 1) (less_room g.errand) (work_is k x.live.me x opened.live) (opened_free E A G Here input said received k nodes x from strength g link opened)
        (opened_well said (Goes x.live) x (found_old k calls now ss nodes x opened.live).held unanswered (new_edge from link strength) g link opened.going opened.waits even)
        (λ c at some. (let none : call_at (with_edge x (new_edge from link strength)).work (length x.live.edges + 1) ≡ 0 = no_call x.work.calls x.live.edges even in absurd (omega (arith, some, none))))
    wells_on (steps.Hears_reply {k = k} x weight count a i e answered) granted ss news rooted nodes calls now =
        reply_well welled k calls now ss nodes rooted x weight count a i e answered (λ none goes. granted.sees x.live.me goes)
    wells_on (steps.Backs {k = k} x step from i calling next) granted ss news rooted nodes calls now =
        let told = calling_well welled k calls now ss nodes calling in
        let mine = drafts.calling_mine E A G Here input said received k calling in
        let goes : Goes x.live = drafts.waits_goes E A G Here input said received k x i (errands.GoBack step) mine granted in
        draft.calls_over E A G Here input said received k calls now k.sessions x i (errands.GoBack step) mine (calling_free E A G Here input said received k ss nodes calling) (λ g j e other at. told g j e at)
        (told_at k calls now ss nodes x i goes told)
    wells_on (steps.Is_back {k = k} x step from calling none) granted ss news rooted nodes calls now =
        draft.answers_well E A G Here input said received k calls now x _ (drafts.calling_mine E A G Here input said received k calling) (calling_free E A G Here input said received k ss nodes calling) (calling_well welled k calls now ss nodes calling)
    wells_on (steps.Opens_branch {k = k} to parent edge root depth read_at came new) granted ss news rooted nodes calls now =
        draft.begun E A G Here input said received k calls now (post (next_child p k) parent (kinds.Opened edge (strength_of p k))) (((λ n v is. is), refl), tt) (fresh_live (next_child p k) root (Some parent) depth (strength_of p k) read_at) refl
    wells_on (steps.Acts {k = k} l b a why) granted ss news rooted nodes calls now = acts_well k calls now ss nodes a why
    wells_on (steps.Drops_told {k = k} l live drops) granted ss news rooted nodes calls now = draft.left E A G Here input said received k calls now l.me _ (rolled l)
    wells_on (steps.Drops_asked {k = k} l from live came parent) granted ss news rooted nodes calls now = draft.left E A G Here input said received k calls now l.me _ (((λ n v is. is), refl), rolled l)
    wells_on (steps.Does {k = k} s from (nexts.End d) kept why) granted ss news rooted nodes calls now = draft.quiet E A G Here input said received k calls now _ (passes_say IsIdle idle_decisions s d)
    wells_on (steps.Does {k = k} s from (nexts.Meet d mixed) kept why) granted ss news rooted nodes calls now = draft.quiet E A G Here input said received k calls now _ (passes_say IsIdle idle_decisions s d)
    wells_on (steps.Does {k = k} s from nexts.AckToward kept why) granted ss news rooted nodes calls now = draft.quiet E A G Here input said received k calls now _ (one_says IsIdle s.me kinds.Ack s.toward ((λ n v is. is), refl))
    wells_on (steps.Does {k = k} s from nexts.Forget kept why) granted ss news rooted nodes calls now = draft.quiet E A G Here input said received k calls now _ (each_says IsIdle s.me kinds.Forgotten (map (λ b. b.branch) (beyond s)) ((λ n v is. is), refl))
    wells_on (steps.Does {k = k} s from nexts.SayForgotten kept why) granted ss news rooted nodes calls now = draft.quiet E A G Here input said received k calls now _ (((λ n v is. is), refl), tt)
    wells_on (steps.Does {k = k} s from nexts.SayAck kept why) granted ss news rooted nodes calls now = draft.quiet E A G Here input said received k calls now _ (((λ n v is. is), refl), tt)
    wells_on (steps.Leaves {k = k} n s d x call ends has live) granted ss news rooted nodes calls now = draft.left E A G Here input said received k calls now x.live.me _ (rolled x.live)
    wells_on (steps.Sets_savepoint {k = k} n x name call has code live) granted ss news rooted nodes calls now =
        let so : Then [] x.live x.work = draft.stay E A G Here input said received k calls now [] x.live x.work (λ n v is. is) (found_old k calls now ss nodes x live) in (
          draft.put E A G Here input said received k calls now [] x.live (marked k.sessions x name).work (work_is k x.live.me x live) (λ b other n v is. is) (record { held = so.held; kept = so.kept; first = so.first }),
          calls_stay said [] (λ a b. refl) calls,
          (λ b none n v is. is),
        )
    wells_on (steps.Gives_up {k = k} n x gives has pends live) granted ss news rooted nodes calls now =
        let was : Old x.live x.work = found_old k calls now ss nodes x live in
        let none : x.live.parent ≡ None = root_alone k ss n x.live.me has x.live (live_so k x.live.me x live) in
        let refused : G x.live.me → ⊥ = λ goes. given_code k.sessions n _ x.live.me has (subst (λ m. (session_at (needs_rollback (with_call k.sessions n pending.NoCall) n (dtx 3 []).code) m).code ≡ None) (ss.roots.each n x.live.me has) (granted.sees x.live.me goes)) in (
          draft.put E A G Here input said received k calls now [] x.live (gives_up x).work (work_is k x.live.me x live) (λ b other n v is. is) (record {
            held = λ goes i e at. absurd (refused (goes none));
            kept = (draft.stay E A G Here input said received k calls now [] x.live x.work (λ n v is. is) was).kept;
            first = was.first;
          }),
          calls_stay said [] (λ a b. refl) calls,
          (λ b none n v is. is),
        )
    wells_on (steps.Gives_up_commit {k = k} n b (Some l) gives has pends live) granted ss news rooted nodes calls now = draft.left E A G Here input said received k calls now l.me _ (rolled l)
    wells_on {k = k} _ granted ss news rooted nodes calls now = draft.quiet E A G Here input said received k calls now [] tt
