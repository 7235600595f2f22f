-- A COMMIT that is pending is answered once, by Commit complete or by a refusal, and is pending as a COMMIT until then.
use Rattle.std.proofs.Common.{◌≡◌, ◌≢◌, ℕ, ◌==◌, ◌&&◌, ◌⊎◌, Bool, true, false, if◌then◌else◌, List, [], ◌∷◌, ◌++◌, map, filter, is_none, unwrap_or, Option, Some, None, inl, inr, refl, sym, ap, subst, ◌∙◌}
use Rattle.std.proofs.lemmas.Bool.{cond_both, eqb-true, eq-eqb}
use Rattle.commit_forget.specs.declared.next.Next.TheVariants as nexts
use Rattle.node_rules.specs.Data.{Act, Answer, BranchId, Decision, Input, Kind, Live, Place, Refusal, Stmt, Task}
use Rattle.node_rules.specs.Data.acts
use Rattle.node_rules.specs.Data.answers
use Rattle.node_rules.specs.Data.decisions
use Rattle.node_rules.specs.Data.inputs
use Rattle.node_rules.specs.Data.kinds
use Rattle.node_rules.specs.Data.stmts
use Rattle.node_rules.specs.Data.tasks
use Rattle.node_rules.specs.declared.session.PendingCall.TheVariants as pending
use Rattle.node_rules.specs.declared.session.Session.{Session}
use Rattle.node_rules.specs.declared.session.Finished.{Finished}
use Rattle.node_rules.specs.Calls.{answered_sessions, answer_ends, call_pends, heard_answer, heard_sessions, hears_reply, is_gone, with_edge}
use Rattle.session_tree.specs.Live.{new_edge}
use Rattle.node_rules.specs.declared.work.Going.{Going}
use Rattle.node_rules.specs.Client.{commit_at, commit_by, commit_call, new_root, root_at}
use Rattle.node_rules.specs.Commit.{decided_sessions, decision_answers}
use Rattle.node_rules.specs.Inputs.{Came}
use Rattle.node_rules.specs.NodeState.{Branch, TurnDraft, NodeState, branch_at, live_at}
use Rattle.node_rules.specs.Prepare.{abandoned_sessions, abandon_ends, act_turn, collecting, first_act, is_alone, with_comment, without_read_keys}
use Rattle.node_rules.specs.Refusals.{dtx}
use Rattle.node_rules.specs.Sessions.{session_at, with_call, needs_rollback, no_transaction, commit_is_pending, commit_ended, commit_answer}
use Rattle.node_rules.specs.Statement.{ran, after_run}
use Rattle.node_rules.specs.Words.{set_numbered}
use Rattle.node_rules.proofs.StandLemmas.{live_so, RootSo, root_so}
use Rattle.node_rules.proofs.Steps as steps
use Rattle.node_rules.specs.Marks.{node_back}
use Rattle.node_rules.proofs.Steps.{Asked, Goes_to, Calls_back, Step}
use Rattle.run_rules.specs.Calls.{is_complete}
use Rattle.run_base_laws.proofs.RestStepLemmas.{going_of}
use Rattle.run_base_laws.proofs.RootLemmas.{session_or_before, counted_session}
use Rattle.run_ready_laws.proofs.CallEndLemmas.{none_of, set_here}
use Rattle.answer_done_laws.specs.DoneLaws.{answers_to}

-- what a COMMIT is answered
abbrev pub EndsCommit : Answer → Type 0
EndsCommit a = (is_complete a ≡ true) ⊎ ((r : Refusal) × (a ≡ answers.Refused r))

-- the COMMIT of a session is pending still, or is answered so
abbrev pub CommitSo : ℕ → List Session → List Finished → Type 0
CommitSo m zs fs = ((answers_to m fs ≡ []) × ((session_at zs m).call ≡ pending.Commit)) ⊎ ((a : Answer) × (answers_to m fs ≡ a ∷ []) × EndsCommit a)

-- ---- answers of other sessions

other_answer : (m n : ℕ) (a : Answer) (fs : List Finished) → (n == m) ≡ false → answers_to m ((record { session = n; answer = a }) ∷ fs) ≡ answers_to m fs
other_answer m n a fs other = ap (λ q. map (λ x. x.answer) (if q then (record { session = n; answer = a }) ∷ filter (λ x. x.session == m) fs else filter (λ x. x.session == m) fs)) other

own_answer : (m n : ℕ) (a : Answer) (fs : List Finished) → (n == m) ≡ true → answers_to m ((record { session = n; answer = a }) ∷ fs) ≡ a ∷ answers_to m fs
own_answer m n a fs own = ap (λ q. map (λ x. x.answer) (if q then (record { session = n; answer = a }) ∷ filter (λ x. x.session == m) fs else filter (λ x. x.session == m) fs)) own

apart : (n m : ℕ) → (n ≡ m → ⊥) → (n == m) ≡ false
apart n m other = by (n == m) refl
  where
    by : (q : Bool) → (n == m) ≡ q → q ≡ false
    by true same = absurd (other (eqb-true n m same))
    by false is = refl

module _ (m : ℕ) (ss : List Session) (commits : (session_at ss m).call ≡ pending.Commit) where
  same_so : CommitSo m ss []
  same_so = inl (refl, commits)

  -- another session is set
  other_call : (n : ℕ) (s : Session) → (n == m) ≡ false → (session_at (set_numbered ss n s) m).call ≡ pending.Commit
  other_call n s other = elim (session_or_before ss n m s) [
    | inl still ↦ ap (λ x. x.call) still ∙ commits
    | inr new ↦ absurd (let same : (n == m) ≡ true = eq-eqb n m new.0 in cc (same, other))
  ]

  -- or one with the same call
  kept_call : (n : ℕ) (s : Session) → s.call ≡ (session_at ss n).call → (session_at (set_numbered ss n s) m).call ≡ pending.Commit
  kept_call n s same = elim (session_or_before ss n m s) [
    | inl still ↦ ap (λ x. x.call) still ∙ commits
    | inr new ↦ ap (λ x. x.call) new.1 ∙ (same ∙ (ap (λ i. (session_at ss i).call) new.0 ∙ commits))
  ]

  -- the COMMIT of a branch ends
  commit_so : (b : BranchId) (a : Answer) → EndsCommit a → CommitSo m (commit_ended ss b) (commit_answer ss b a)
  commit_so b a ends = by (commit_is_pending ss b)
    where
      by : (q : Bool) → CommitSo m (if q then set_numbered ss b.session (no_transaction (session_at ss b.session)) else ss) (if q then (record { session = b.session; answer = a }) ∷ [] else [])
      by false = same_so
      by true = own (b.session == m) refl
        where
          own : (q : Bool) → (b.session == m) ≡ q → CommitSo m (set_numbered ss b.session (no_transaction (session_at ss b.session))) ((record { session = b.session; answer = a }) ∷ [])
          own true is = inr (a, own_answer m b.session a [] is, ends)
          own false is = inl (other_answer m b.session a [] is, other_call b.session (no_transaction (session_at ss b.session)) is)

  alone_so : (here : Bool) (b : BranchId) (a : Answer) → EndsCommit a → CommitSo m (if here then commit_ended ss b else ss) (if here then commit_answer ss b a else [])
  alone_so true b a ends = commit_so b a ends
  alone_so false b a ends = same_so

  decision_so : (b : BranchId) (d : Decision) → CommitSo m (decided_sessions ss b d) (decision_answers ss b d)
  decision_so b (decisions.Commit n) = same_so
  decision_so b decisions.Rollback = commit_so b _ (inr (_, refl))

  abandoned_so : (l : Live) (o : Option BranchId) → CommitSo m (abandoned_sessions ss l o) (abandon_ends ss l o)
  abandoned_so l None = commit_so l.me _ (inr (_, refl))
  abandoned_so l (Some parent) = same_so

  -- a statement is answered, or goes on, at another root
  answered_so : (l : Live) (a : Answer) (o : Option BranchId) → (o ≡ None → (l.me.session == m) ≡ false) → CommitSo m (answered_sessions ss l o) (answer_ends l a o)
  answered_so l a None other = inl (other_answer m l.me.session a [] (other refl), other_call l.me.session (record (session_at ss l.me.session) { call = pending.NoCall }) (other refl))
  answered_so l a (Some parent) other = same_so

  going_so : (l : Live) → (l.parent ≡ None → (l.me.session == m) ≡ false) → CommitSo m (call_pends ss l) []
  going_so l other =
      cond_both (is_none l.parent) (with_call ss l.me.session pending.Statement) ss (λ zs. CommitSo m zs [])
      (λ root. inl (refl, other_call l.me.session (record (session_at ss l.me.session) { call = pending.Statement }) (other (none_of l.parent root)))) (λ below. same_so)

  heard_so : (l : Live) (a : Answer) → (session_at (heard_sessions ss l a) m).call ≡ pending.Commit
  heard_so l a =
      cond_both (is_none l.parent && is_gone a) (needs_rollback ss l.me.session (dtx 8 []).code) ss (λ zs. (session_at zs m).call ≡ pending.Commit)
      (λ gone. kept_call l.me.session (record (session_at ss l.me.session) { code = Some (dtx 8 []).code }) refl) (λ other. commits)

  -- what a call of another session ends
  ended_so : (zs : List Session) (n : ℕ) (a : Answer) → (session_at zs m).call ≡ pending.Commit → (n == m) ≡ false → CommitSo m zs ((record { session = n; answer = a }) ∷ [])
  ended_so zs n a still other = inl (other_answer m n a [] other, still)

  -- an outcome is forced by another session
  forced_so : (b : BranchId) (a x : Answer) (n : ℕ) → EndsCommit a → (n == m) ≡ false → CommitSo m (commit_ended ss b) (commit_answer ss b a ++ (record { session = n; answer = x }) ∷ [])
  forced_so b a x n ends other = by (commit_is_pending ss b)
    where
      last : answers_to m ((record { session = n; answer = x }) ∷ []) ≡ []
      last = other_answer m n x [] other

      by : (q : Bool) → CommitSo m (if q then set_numbered ss b.session (no_transaction (session_at ss b.session)) else ss) ((if q then (record { session = b.session; answer = a }) ∷ [] else []) ++ (record { session = n; answer = x }) ∷ [])
      by false = inl (last, commits)
      by true = own (b.session == m) refl
        where
          own : (q : Bool) → (b.session == m) ≡ q
              → CommitSo m (set_numbered ss b.session (no_transaction (session_at ss b.session))) ((record { session = b.session; answer = a }) ∷ (record { session = n; answer = x }) ∷ [])
          own true is = inr (a, own_answer m b.session a ((record { session = n; answer = x }) ∷ []) is ∙ ap (λ xs. a ∷ xs) last, ends)
          own false is = inl (other_answer m b.session a ((record { session = n; answer = x }) ∷ []) is ∙ last, other_call b.session (no_transaction (session_at ss b.session)) is)

-- an act of the prepare phase
act_so : (m : ℕ) (k : NodeState) (l : Live) (site_below : Bool) (a : Act) → (session_at k.sessions m).call ≡ pending.Commit → CommitSo m (act_turn k l site_below a).after.sessions (act_turn k l site_below a).ended
act_so m k l site_below acts.Decide commits = alone_so m k.sessions commits (is_alone l) l.me _ (inl refl)
act_so m k l site_below acts.Finish commits = commit_so m k.sessions commits l.me _ (inl refl)
act_so m k l site_below acts.Abandon commits = abandoned_so m k.sessions commits l l.parent
act_so m k l site_below _ commits = same_so m k.sessions commits

-- ---- steps

-- What is known of a node where the COMMIT of a session is pending.
pub record Commits (m : ℕ) (input : Input) (k : NodeState) : Type 0 where
  pub commits : (session_at k.sessions m).call ≡ pending.Commit
  pub roots : (n : ℕ) (b : BranchId) → (session_at k.sessions n).root ≡ Some b → b.session ≡ n
  pub below : (from to : BranchId) (call : ℕ) (task : Task) → Came input from to (kinds.Exec call task) → (l : Live) → live_at k to ≡ Some l → l.parent ≢ None
  pub rests : ((n : ℕ) (s : Option Stmt) → input ≡ inputs.Call n s → ⊥) → (x : Branch) → branch_at k x.live.me ≡ Some x → x.live.parent ≡ None → x.live.me.session ≡ m → x.work.going ≡ None

module _ (m : ℕ) (p : Place) (input : Input) (other : (s : Option Stmt) → input ≡ inputs.Call m s → ⊥) where
  not_mine : (n : ℕ) (s : Option Stmt) → input ≡ inputs.Call n s → (n == m) ≡ false
  not_mine n s call = apart n m (λ same. other s (call ∙ ap (λ i. inputs.Call i s) same))

  came_no_call : (from to : BranchId) (kind : Kind) → Came input from to kind → (n : ℕ) (s : Option Stmt) → input ≡ inputs.Call n s → ⊥
  came_no_call from to kind came n s call = let is = came.is in absurd (cc (call, is))

  -- a statement that came is that of another root
  asked_other : {k : NodeState} {x : Branch} {s : Stmt} {given : ℕ} → Commits m input k → Asked k input x s given → x.live.parent ≡ None → (x.live.me.session == m) ≡ false
  asked_other now (steps.By_call n x s call rows has code live may) root = ap (λ i. i == m) (now.roots n x.live.me has) ∙ not_mine n (Some s) call
  asked_other {k = k} now (steps.By_exec x from call given advice s came live runs) root = absurd (now.below from x.live.me call (tasks.Run given advice s) came x.live (live_so k x.live.me x live) root)

  -- so is a root that goes back
  goes_other : {k : NodeState} {x : Branch} {step : ℕ} → Commits m input k → Goes_to k input x step → x.live.parent ≡ None → (x.live.me.session == m) ≡ false
  goes_other now (steps.By_rollback_to n x name step call has code live set) root = ap (λ i. i == m) (now.roots n x.live.me has) ∙ not_mine n (Some (stmts.RollbackTo name)) call
  goes_other {k = k} now (steps.By_back x from call keep came live runs) root = absurd (now.below from x.live.me call (tasks.GoBack keep) came x.live (live_so k x.live.me x live) root)

  -- nor is one that waited
  waits_other : {k : NodeState} (x : Branch) (g : Going) → Commits m input k → ((n : ℕ) (s : Option Stmt) → input ≡ inputs.Call n s → ⊥) → branch_at k x.live.me ≡ Some x → x.work.going ≡ Some g → x.live.parent ≡ None
      → (x.live.me.session == m) ≡ false
  waits_other x g now no_call live going root = apart x.live.me.session m (λ same. (let none = now.rests no_call x live root same in absurd (cc (none, going))))

  -- nor a root whose children are to go back
  calling_other : {k : NodeState} {x : Branch} {step from : ℕ} → Commits m input k → Calls_back k input x step from → x.live.parent ≡ None → (x.live.me.session == m) ≡ false
  calling_other now (steps.Has_gone j x step goes is) root =
      let was : Commits m input (node_back j x step) = subst (Commits m input) is now in
      goes_other {k = j} (record { commits = was.commits; roots = was.roots; below = was.below; rests = was.rests }) goes root
  calling_other now (steps.Has_heard x weight count a i e g step answered going errand plain) root =
      waits_other x g now (came_no_call answered.from x.live.me (kinds.Reply answered.call weight count a) answered.came) answered.live going root

  -- each step of an input that is no call of the session
  pub commit_on : {k : NodeState} {d : TurnDraft} → Step p input k d → Commits m input k → CommitSo m d.after.sessions d.ended
  commit_on (steps.Begins {k = k} n s read_at call begins range none step) now =
      let mine : (n == m) ≡ false = not_mine n (Some s) call in
      let root : BranchId = new_root p k n in
      let new : Session = record (session_at k.sessions n) { seq = root.seq; root = Some root; calls = 0 } in
      commit_on step (record {
        commits = other_call m k.sessions now.commits n new mine;
        roots = λ q b has. elim (session_or_before k.sessions n q new) [
          | inl still ↦ now.roots q b (sym (ap (λ (x : Session). x.root) still) ∙ has)
          | inr set ↦ (let it : Some root ≡ Some b = sym (ap (λ (x : Session). x.root) set.1) ∙ has in let same : root ≡ b = cc in ap (λ (x : BranchId). x.session) (sym same) ∙ set.0)
        ];
        below = λ from to c task came. absurd (came_no_call from to (kinds.Exec c task) came n (Some s) call);
        rests = λ no_call. absurd (no_call n (Some s) call);
      })
  commit_on (steps.Counts_call {k = k} n s call counts step) now =
      commit_on step (record {
        commits = ap (λ (x : Session). x.call) (counted_session k.sessions n m (session_at k.sessions n).root).1 ∙ now.commits;
        roots = λ q b has. now.roots q b (ap (λ (x : Session). x.root) (sym (counted_session k.sessions n q (session_at k.sessions n).root).1) ∙ has);
        below = now.below;
        rests = now.rests;
      })
  commit_on (steps.Goes_back x step goes next) now = commit_on next (record { commits = now.commits; roots = now.roots; below = now.below; rests = now.rests })
  commit_on (steps.Pends {k = k} n l given call has live code writer step) now =
      let mine : (n == m) ≡ false = not_mine n (Some (stmts.Commit given)) call in
      let set : Session = record (session_at k.sessions n) { call = pending.Commit } in
      commit_on step (record {
        commits = other_call m k.sessions now.commits n set mine;
        roots = λ q b has_root. elim (session_or_before k.sessions n q set) [
          | inl still ↦ now.roots q b (sym (ap (λ (x : Session). x.root) still) ∙ has_root)
          | inr new ↦ now.roots q b (ap (λ i. (session_at k.sessions i).root) (sym new.0) ∙ (sym (ap (λ (x : Session). x.root) new.1) ∙ has_root))
        ];
        below = λ from to c task came. absurd (came_no_call from to (kinds.Exec c task) came n (Some (stmts.Commit given)) call);
        rests = λ no_call. absurd (no_call n (Some (stmts.Commit given)) call);
      })
  commit_on (steps.Lets_reads_go l comment site_below live begins step) now = commit_on step (record { commits = now.commits; roots = now.roots; below = now.below; rests = now.rests })
  commit_on (steps.Counts_ack s from kept came counts step) now = commit_on step (record { commits = now.commits; roots = now.roots; below = now.below; rests = now.rests })
  commit_on (steps.Runs {k = k} x s given t asked way) now = let l : Live = after_run x.live (ran p k x.live.me s t) in answered_so m k.sessions now.commits l _ x.live.parent (asked_other now asked)
  commit_on (steps.Goes_nowhere {k = k} x s given r asked way) now = answered_so m k.sessions now.commits x.live _ x.live.parent (asked_other now asked)
  commit_on (steps.Calls {k = k} x s given i table asked way) now = going_so m k.sessions now.commits x.live (asked_other now asked)
  commit_on (steps.Opens {k = k} x s given node link table asked way) now = going_so m k.sessions now.commits x.live (asked_other now asked)
  commit_on (steps.Goes_on {k = k} x from strength g link opened) now =
      going_so m k.sessions now.commits (with_edge x (new_edge from link strength)).live
      (waits_other x g now (came_no_call from x.live.me (kinds.Opened opened.edge strength) opened.came) opened.live opened.going)
  commit_on (steps.Hears_reply {k = k} x weight count a i e answered) now =
      let y : Branch = hears_reply x i weight count e in
      let g = going_of x answered.from answered.call i e answered.waits in
      answered_so m (heard_sessions k.sessions y.live a) (heard_so m k.sessions now.commits y.live a) y.live (heard_answer y.live e.link a) x.live.parent
      (waits_other x g.0 now (came_no_call answered.from x.live.me (kinds.Reply answered.call weight count a) answered.came) answered.live g.1)
  commit_on (steps.Backs {k = k} x step from i calls next) now = going_so m k.sessions now.commits x.live (calling_other now calls)
  commit_on (steps.Is_back {k = k} x step from calls none) now = answered_so m k.sessions now.commits x.live _ x.live.parent (calling_other now calls)
  commit_on (steps.Acts {k = k} l site_below a why) now = act_so m k l site_below a now.commits
  commit_on (steps.Does {k = k} s from (nexts.End d) kept why) now = decision_so m k.sessions now.commits s.me d
  commit_on (steps.Does {k = k} s from (nexts.Meet d mixed) kept why) now = decision_so m k.sessions now.commits s.me d
  commit_on (steps.Does {k = k} s from nexts.Forget kept why) now = commit_so m k.sessions now.commits s.me _ (inl refl)
  commit_on (steps.Refuses {k = k} n s r call) now = ended_so m k.sessions now.commits k.sessions n _ now.commits (not_mine n s call)
  commit_on (steps.Completes_at_once {k = k} n s d call completes none) now = ended_so m k.sessions now.commits k.sessions n _ now.commits (not_mine n (Some s) call)
  commit_on (steps.Makes_record {k = k} n s r d call makes) now = ended_so m k.sessions now.commits k.sessions n _ now.commits (not_mine n (Some s) call)
  commit_on (steps.Forces_given {k = k} n id scn b call named) now = forced_so m k.sessions now.commits b _ _ n (inr (_, refl)) (not_mine n _ call)
  commit_on (steps.Forces_commit {k = k} n id b call named) now = forced_so m k.sessions now.commits b _ _ n (inr (_, refl)) (not_mine n _ call)
  commit_on (steps.Forces_rollback {k = k} n id b call named) now = forced_so m k.sessions now.commits b _ _ n (inr (_, refl)) (not_mine n _ call)
  commit_on (steps.Hides {k = k} n mixed id s call found) now = ended_so m k.sessions now.commits k.sessions n _ now.commits (not_mine n _ call)
  commit_on (steps.Advises {k = k} n a call) now =
      let set : Session = record (session_at k.sessions n) { advice = a } in
      ended_so m k.sessions now.commits (set_numbered k.sessions n set) n _ (kept_call m k.sessions now.commits n set refl) (not_mine n _ call)
  commit_on (steps.Leaves {k = k} n s d x call ends has live) now =
      let set : Session = no_transaction (session_at k.sessions n) in
      ended_so m k.sessions now.commits (set_numbered k.sessions n set) n _ (other_call m k.sessions now.commits n set (not_mine n _ call)) (not_mine n _ call)
  commit_on (steps.Sets_read_only {k = k} n call) now = ended_so m k.sessions now.commits k.sessions n _ now.commits (not_mine n _ call)
  commit_on (steps.Sets_savepoint {k = k} n x name call has code live) now = ended_so m k.sessions now.commits k.sessions n _ now.commits (not_mine n _ call)
  commit_on (steps.Gives_up {k = k} n x gives has calls live) now =
      let mine : (n == m) ≡ false = apart n m (λ same. (let commits : (session_at k.sessions n).call ≡ pending.Commit = ap (λ i. (session_at k.sessions i).call) same ∙ now.commits in absurd (cc (commits, calls)))) in
      let zs : List Session = with_call k.sessions n pending.NoCall in
      let free : (session_at zs m).call ≡ pending.Commit = other_call m k.sessions now.commits n (record (session_at k.sessions n) { call = pending.NoCall }) mine in
      ended_so m k.sessions now.commits (needs_rollback zs n (dtx 3 []).code) n _ (kept_call m zs free n (record (session_at zs n) { code = Some (dtx 3 []).code }) refl) mine
  commit_on (steps.Gives_up_commit {k = k} n b (Some l) gives has calls live) now = commit_so m k.sessions now.commits l.me _ (inr (_, refl))
  commit_on (steps.Gives_up_commit {k = k} n b None gives has calls live) now = commit_so m k.sessions now.commits b _ (inr (_, refl))
  commit_on {k = k} _ now = same_so m k.sessions now.commits

-- ---- COMMIT comes

pub commit_comes : (k : NodeState) (n : ℕ) (given : Option (List ℕ)) → CommitSo n (commit_call k n given).after.sessions (commit_call k n given).ended
commit_comes k n given = by (session_at k.sessions n).code (root_at k n) (root_so k n)
  where
    here : (n == n) ≡ true
    here = eq-eqb n n refl

    alone : (zs : List Session) (a : Answer) → EndsCommit a → CommitSo n zs ((record { session = n; answer = a }) ∷ [])
    alone zs a ends = inr (a, own_answer n n a [] here, ends)

    by : (code : Option ℕ) (o : Option Branch) → RootSo k n o → CommitSo n (commit_by k n (unwrap_or given []) code o).after.sessions (commit_by k n (unwrap_or given []) code o).ended
    by None None so = alone k.sessions _ (inl refl)
    by (Some c) None so = alone k.sessions _ (inl refl)
    by (Some c) (Some x) so = alone k.sessions _ (inr (_, refl))
    by None (Some x) so = by_reading x.live.read_at
      where
        by_reading : (read_at : Option ℕ) → CommitSo n (commit_at k n (unwrap_or given []) x read_at).after.sessions (commit_at k n (unwrap_or given []) x read_at).ended
        by_reading (Some scn) = alone _ _ (inl refl)
        by_reading None =
            let set : Session = record (session_at k.sessions n) { call = pending.Commit } in
            let zs : List Session = with_call k.sessions n pending.Commit in
            let commits : (session_at zs n).call ≡ pending.Commit = ap (λ (s : Session). s.call) (set_here k.sessions n x.live.me set so.0) in
            let l : Live = collecting (with_comment x.live (unwrap_or given [])) true in
            act_so n (without_read_keys (record k { sessions = zs }) x.live.me) l true (first_act l true) commits
