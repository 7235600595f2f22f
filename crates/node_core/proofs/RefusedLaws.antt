-- A call that is refused in the turn in which it came changes no row and no lock, and writes no record.
use Rattle.std.proofs.Common.{◌≡◌, ℕ, Bool, true, false, if◌then◌else◌, List, [], ◌∷◌, ◌++◌, find, length, unwrap_or, Option, None, Some, refl, ap}
use Rattle.std.specs.Prelude.{◌&&◌, is_none, is_some, Result, Ok, Err}
use Rattle.node_rules.specs.Data.{Table, Stmt, Answer, Done, Refusal, BranchId, RedoRecord, KeptRow, Edge, Live, Walk, Act, Place}
use Rattle.node_rules.specs.declared.session.Finished.{Finished}
use Rattle.node_rules.specs.Data.answers
use Rattle.node_rules.specs.Data.dones
use Rattle.node_rules.specs.Data.stmts
use Rattle.node_rules.specs.Data.inputs
use Rattle.node_rules.specs.Data.walks
use Rattle.node_rules.specs.Data.acts
use Rattle.node_rules.specs.declared.session.PendingCall.TheVariants as pending
use Rattle.session_tree.specs.Tree.{step}
use Rattle.prepare_phase.specs.Acts.{root_act, first_act_by}
use Rattle.node_rules.specs.Names.{Way, Runs_here, Over, Through, Nowhere_to, way_of}
use Rattle.node_rules.specs.Statement.{StmtOutcome, Refuses, Reads, Writes, node_after_run, after_run, answer_of_run, ran}
use Rattle.node_rules.specs.NodeState.{NodeState, TurnDraft, Branch}
use Rattle.node_rules.specs.Sessions.{commit_is_pending, commit_complete, session_at, tran_refusal, with_call}
use Rattle.node_rules.specs.Refusals.{dtx}
use Rattle.node_rules.specs.Marks.{branch_back, next_back, node_back, savepoint_at}
use Rattle.node_rules.specs.Calls.{answer_ends, answered, backs_to, branch_ran, goes, statement_at}
use Rattle.node_rules.specs.Prepare.{act_turn, is_alone, collecting, with_comment, without_read_keys}
use Rattle.node_rules.specs.Force.{branch_to_force, force_commit, force_rollback, may_purge, hides, purge}
use Rattle.node_rules.specs.Client.{back_by, back_call, back_to_savepoint, counted, is_write, read_only_by, refuses, savepoint_by, savepoint_call, writes, begun, statement_by, statement_call, commit_at, commit_by, rollback_by, is_used, is_link, call_turn, read_turn, root_at}
use Rattle.node_rules.specs.Turn.{turn_of}
use Rattle.node_core.specs.Refused.{RefusedCallsLeaveAll}

-- a session's call ends with a refusal, and no other call ends
abbrev Says : ℕ → List Finished → Type 0
Says n ended = (refusal : Refusal) × (ended ≡ (record { session = n; answer = answers.Refused refusal }) ∷ [])

record Leaves (k : NodeState) (d : TurnDraft) : Type 0 where
  stored : d.after.stored ≡ k.stored
  owns : d.after.owns ≡ k.owns
  locks : d.after.locks ≡ k.locks
  wrote : d.wrote ≡ None

-- ---- which answers are refusals

abbrev first_answer : List Finished → Option Answer
first_answer [] = None
first_answer (f ∷ fs) = Some f.answer

abbrev behind : List Finished → List Finished
behind [] = []
behind (f ∷ fs) = fs

told : (n : ℕ) (ended : List Finished) → (says : Says n ended) → first_answer ended ≡ Some (answers.Refused says.0)
told n ended says = ap first_answer says.1

alone : (n : ℕ) (ended : List Finished) → Says n ended → behind ended ≡ []
alone n ended says = ap behind says.1

ends_so : (l : Live) (a : Answer) (parent : Option BranchId) (n : ℕ) → (says : Says n (answer_ends l a parent)) → a ≡ answers.Refused says.0
ends_so l a None n says = let is : Some a ≡ Some (answers.Refused says.0) = told n (answer_ends l a None) says in cc
ends_so l a (Some parent) n says = let is : None ≡ Some (answers.Refused says.0) = told n (answer_ends l a (Some parent)) says in absurd cc

-- a call that is complete, where it is pending
complete_if : (m n : ℕ) (pending : Bool) → Says n (if pending then (record { session = m; answer = commit_complete }) ∷ [] else []) → ⊥
complete_if m n true says = let is : Some commit_complete ≡ Some (answers.Refused says.0) = told n ((record { session = m; answer = commit_complete }) ∷ []) says in absurd cc
complete_if m n false says = let is : None ≡ Some (answers.Refused says.0) = told n [] says in absurd cc

complete_where : (m n : ℕ) (here pending : Bool) → Says n (if here then (if pending then (record { session = m; answer = commit_complete }) ∷ [] else []) else []) → ⊥
complete_where m n true pending says = complete_if m n pending says
complete_where m n false pending says = let is : None ≡ Some (answers.Refused says.0) = told n [] says in absurd cc

did_not : (m n : ℕ) (d : Done) (count : ℕ) → Says n ((record { session = m; answer = answers.Did d count }) ∷ []) → ⊥
did_not m n d count says = let is : Some (answers.Did d count) ≡ Some (answers.Refused says.0) = told n ((record { session = m; answer = answers.Did d count }) ∷ []) says in absurd cc

forced_not : (m n : ℕ) (a : Answer) (d : Done) (pending : Bool) → Says n ((if pending then (record { session = m; answer = a }) ∷ [] else []) ++ (record { session = n; answer = answers.Did d 0 }) ∷ []) → ⊥
forced_not m n a d true says = let is : (record { session = n; answer = answers.Did d 0 }) ∷ [] ≡ [] = alone n _ says in absurd cc
forced_not m n a d false says = did_not n n d 0 says

none_ends : (n : ℕ) → Says n [] → ⊥
none_ends n says = let is : None ≡ Some (answers.Refused says.0) = told n [] says in absurd cc

-- ---- statements of a table

run_leaves : (k : NodeState) (x : Branch) (t : Table) (r : StmtOutcome) (n : ℕ) → Says n (answered (node_after_run k x.live.me t r) (branch_ran k.sessions x t r) (answer_of_run r)).ended
    → Leaves k (answered (node_after_run k x.live.me t r) (branch_ran k.sessions x t r) (answer_of_run r))
run_leaves k x t (Refuses refusal) n says = record { stored = refl; owns = refl; locks = refl; wrote = refl }
run_leaves k x t (Reads rows keys) n says = let is : answers.Found rows ≡ answers.Refused says.0 = ends_so (after_run x.live (Reads rows keys)) (answers.Found rows) x.live.parent n says in absurd cc
run_leaves k x t (Writes d cs keys undo) n says = let is : answers.Did d (length cs) ≡ answers.Refused says.0 = ends_so (after_run x.live (Writes d cs keys undo)) (answers.Did d (length cs)) x.live.parent n says in absurd cc

goes_leaves : (p : Place) (k : NodeState) (x : Branch) (s : Stmt) (given : ℕ) (way : Way) (n : ℕ) → Says n (goes p k x s given way).ended → Leaves k (goes p k x s given way)
goes_leaves p k x s given (Runs_here t) n says = run_leaves k x t (ran p k x.live.me s t) n says
goes_leaves p k x s given (Nowhere_to refusal) n says = record { stored = refl; owns = refl; locks = refl; wrote = refl }
goes_leaves p k x s given (Over i table) n says = record { stored = refl; owns = refl; locks = refl; wrote = refl }
goes_leaves p k x s given (Through node link table) n says = record { stored = refl; owns = refl; locks = refl; wrote = refl }

allowed_leaves : (p : Place) (k : NodeState) (n : ℕ) (x : Branch) (s : Stmt) (forbidden : Bool) → Says n (if forbidden then refuses k n (dtx 21 []) else statement_at p k x s 0).ended
    → Leaves k (if forbidden then refuses k n (dtx 21 []) else statement_at p k x s 0)
allowed_leaves p k n x s true says = record { stored = refl; owns = refl; locks = refl; wrote = refl }
allowed_leaves p k n x s false says = goes_leaves p k x s 0 (way_of p k.stored.durable x.live 0 s) n says

statement_leaves : (p : Place) (k : NodeState) (n : ℕ) (s : Stmt) (code : Option ℕ) (root : Option Branch) → Says n (statement_by p k n s code root).ended → Leaves k (statement_by p k n s code root)
statement_leaves p k n s code None says = record { stored = refl; owns = refl; locks = refl; wrote = refl }
statement_leaves p k n s (Some c) (Some x) says = record { stored = refl; owns = refl; locks = refl; wrote = refl }
statement_leaves p k n s None (Some x) says = allowed_leaves p k n x s (is_some x.live.read_at && is_write s) says

-- a session without a transaction begins one first, which changes no row
call_leaves : (p : Place) (k : NodeState) (n : ℕ) (s : Stmt) → Says n (statement_call p (begun p k n) n s).ended → Leaves k (statement_call p (begun p k n) n s)
call_leaves p k n s says =
    let own = statement_leaves p (begun p k n) n s (session_at (begun p k n).sessions n).code (root_at (begun p k n) n) says in
    record { stored = own.stored; owns = own.owns; locks = own.locks; wrote = own.wrote }

-- ---- COMMIT

-- what a root may do first in its prepare phase
abbrev IsFirst : Act → Type 0
IsFirst acts.AskDown = Unit {0}
IsFirst acts.SayReady = Unit {0}
IsFirst (acts.SealAndPass i) = Unit {0}
IsFirst acts.Decide = Unit {0}
IsFirst acts.Finish = Unit {0}
IsFirst _ = ⊥

root_first : (w : Walk) → IsFirst (root_act w)
root_first walks.Here = tt
root_first (walks.Down i) = tt
root_first walks.Nowhere = tt

collected_first : (w : Walk) (root : Bool) → IsFirst (if root then root_act w else acts.SayReady)
collected_first w true = root_first w
collected_first w false = tt

act_first : (l : Live) (es : List Edge) → IsFirst (first_act_by l true es)
act_first l [] = collected_first (step l) (is_none l.parent)
act_first l (e ∷ es) = tt

acts_refuse_none : (k : NodeState) (l : Live) (a : Act) (n : ℕ) → IsFirst a → Says n (act_turn k l true a).ended → ⊥
acts_refuse_none k l acts.AskDown n first says = none_ends n says
acts_refuse_none k l acts.SayReady n first says = none_ends n says
acts_refuse_none k l (acts.SealAndPass i) n first says = none_ends n says
acts_refuse_none k l acts.Decide n first says = complete_where l.me.session n (is_alone l) (commit_is_pending k.sessions l.me) says
acts_refuse_none k l acts.Finish n first says = complete_if l.me.session n (commit_is_pending k.sessions l.me) says
acts_refuse_none k l acts.Rest n first says = absurd first
acts_refuse_none k l acts.SayReadOnly n first says = absurd first
acts_refuse_none k l acts.Seal n first says = absurd first
acts_refuse_none k l acts.Abandon n first says = absurd first

commits_leave : (k : NodeState) (n : ℕ) (comment : List ℕ) (x : Branch) (read_at : Option ℕ) → Says n (commit_at k n comment x read_at).ended → Leaves k (commit_at k n comment x read_at)
commits_leave k n comment x (Some scn) says = absurd (did_not n n dones.Committed 0 says)
commits_leave k n comment x None says =
    let begun_kept = without_read_keys (record k { sessions = with_call k.sessions n pending.Commit }) x.live.me in
    let begun_live = collecting (with_comment x.live comment) true in
    absurd (acts_refuse_none begun_kept begun_live (first_act_by begun_live true begun_live.edges) n (act_first begun_live begun_live.edges) says)

commit_leaves : (k : NodeState) (n : ℕ) (comment : List ℕ) (code : Option ℕ) (root : Option Branch) → Says n (commit_by k n comment code root).ended → Leaves k (commit_by k n comment code root)
commit_leaves k n comment code None says = absurd (did_not n n dones.Committed 0 says)
commit_leaves k n comment (Some c) (Some x) says = record { stored = refl; owns = refl; locks = refl; wrote = refl }
commit_leaves k n comment None (Some x) says = commits_leave k n comment x x.live.read_at says

-- ---- other statements

made_leaves : (k : NodeState) (n : ℕ) (used : Bool) (refusal : Refusal) (r : RedoRecord) (d : Done) → Says n (if used then refuses k n refusal else writes k n r d).ended → Leaves k (if used then refuses k n refusal else writes k n r d)
made_leaves k n true refusal r d says = record { stored = refl; owns = refl; locks = refl; wrote = refl }
made_leaves k n false refusal r d says = absurd (did_not n n d 0 says)

forces_commit : (k : NodeState) (n : ℕ) (scn : Option ℕ) (found : Result BranchId Refusal) → Says n (force_commit k n scn found).ended → Leaves k (force_commit k n scn found)
forces_commit k n scn (Err refusal) says = record { stored = refl; owns = refl; locks = refl; wrote = refl }
forces_commit k n (Some m) (Ok b) says = absurd (forced_not b.session n (tran_refusal 2054 b) dones.Committed (commit_is_pending k.sessions b) says)
forces_commit k n None (Ok b) says = absurd (forced_not b.session n (tran_refusal 2054 b) dones.Committed (commit_is_pending k.sessions b) says)

forces_rollback : (k : NodeState) (n : ℕ) (found : Result BranchId Refusal) → Says n (force_rollback k n found).ended → Leaves k (force_rollback k n found)
forces_rollback k n (Err refusal) says = record { stored = refl; owns = refl; locks = refl; wrote = refl }
forces_rollback k n (Ok b) says = absurd (forced_not b.session n (tran_refusal 2054 b) dones.RolledBack (commit_is_pending k.sessions b) says)

hides_leaves : (k : NodeState) (n : ℕ) (id : List ℕ) (found : Option KeptRow) → Says n (hides k n id found).ended → Leaves k (hides k n id found)
hides_leaves k n id None says = record { stored = refl; owns = refl; locks = refl; wrote = refl }
hides_leaves k n id (Some s) says = absurd (did_not n n dones.Purged 0 says)

purge_leaves : (k : NodeState) (n : ℕ) (mixed : Bool) (id : List ℕ) → Says n (purge k n mixed id).ended → Leaves k (purge k n mixed id)
unfolding purge
purge_leaves k n mixed id says = hides_leaves k n id (find (may_purge mixed id) k.stored.durable.kept) says

rolls_back : (k : NodeState) (n : ℕ) (root : Option Branch) → Says n (rollback_by k n root).ended → Leaves k (rollback_by k n root)
rolls_back k n None says = absurd (did_not n n dones.RolledBack 0 says)
rolls_back k n (Some x) says = absurd (did_not n n dones.RolledBack 0 says)

-- ---- READ ONLY, savepoints

reads_leave : (p : Place) (k : NodeState) (n : ℕ) (root : Option BranchId) → Says n (read_only_by p k n root).ended → Leaves k (read_only_by p k n root)
reads_leave p k n (Some root) says = record { stored = refl; owns = refl; locks = refl; wrote = refl }
reads_leave p k n None says = absurd (did_not n n dones.TransactionSet 0 says)

marks_leave : (k : NodeState) (n : ℕ) (name : List ℕ) (code : Option ℕ) (root : Option Branch) → Says n (savepoint_by k n name code root).ended → Leaves k (savepoint_by k n name code root)
marks_leave k n name code None says = absurd (none_ends n says)
marks_leave k n name (Some c) (Some x) says = record { stored = refl; owns = refl; locks = refl; wrote = refl }
marks_leave k n name None (Some x) says = absurd (did_not n n dones.SavepointMade 0 says)

savepoint_leaves : (p : Place) (k : NodeState) (n : ℕ) (name : List ℕ) → Says n (savepoint_call (begun p k n) n name).ended → Leaves k (savepoint_call (begun p k n) n name)
savepoint_leaves p k n name says =
    let own = marks_leave (begun p k n) n name (session_at (begun p k n).sessions n).code (root_at (begun p k n) n) says in
    record { stored = own.stored; owns = own.owns; locks = own.locks; wrote = own.wrote }

-- a branch that goes back is not refused in the turn in which it begins to
backs_refuse_none : (k : NodeState) (x : Branch) (step : ℕ) (next : Option ℕ) (n : ℕ) → Says n (backs_to k x step next).ended → ⊥
backs_refuse_none k x step None n says = let is : answers.Did dones.RolledBack 0 ≡ answers.Refused says.0 = ends_so x.live (answers.Did dones.RolledBack 0) x.live.parent n says in absurd cc
backs_refuse_none k x step (Some i) n says = none_ends n says

back_leaves_to : (k : NodeState) (n : ℕ) (name : List ℕ) (x : Branch) (at : Option ℕ) → Says n (back_to_savepoint k n name x at).ended → Leaves k (back_to_savepoint k n name x at)
back_leaves_to k n name x None says = record { stored = refl; owns = refl; locks = refl; wrote = refl }
back_leaves_to k n name x (Some step) says = absurd (backs_refuse_none (node_back k x step) (branch_back k x step) step (next_back (branch_back k x step).work step 1) n says)

back_leaves_by : (k : NodeState) (n : ℕ) (name : List ℕ) (code : Option ℕ) (root : Option Branch) → Says n (back_by k n name code root).ended → Leaves k (back_by k n name code root)
back_leaves_by k n name code None says = record { stored = refl; owns = refl; locks = refl; wrote = refl }
back_leaves_by k n name (Some c) (Some x) says = record { stored = refl; owns = refl; locks = refl; wrote = refl }
back_leaves_by k n name None (Some x) says = back_leaves_to k n name x (savepoint_at x.work.marks name) says

back_leaves : (k : NodeState) (n : ℕ) (name : List ℕ) → Says n (back_call (counted k n) n name).ended → Leaves k (back_call (counted k n) n name)
back_leaves k n name says =
    let own = back_leaves_by (counted k n) n name (session_at (counted k n).sessions n).code (root_at (counted k n) n) says in
    record { stored = own.stored; owns = own.owns; locks = own.locks; wrote = own.wrote }

turn_leaves : (p : Place) (k : NodeState) (n : ℕ) (s : Stmt) → Says n (call_turn p k n s).ended → Leaves k (call_turn p k n s)
turn_leaves p k n (stmts.CreateTable t) says = made_leaves k n (is_used k.stored.durable t.name) _ _ _ says
turn_leaves p k n (stmts.CreateLink l) says = made_leaves k n (is_link k.stored.durable l.name) _ _ _ says
turn_leaves p k n (stmts.CreateSynonym y) says = made_leaves k n (is_used k.stored.durable y.name) _ _ _ says
turn_leaves p k n (stmts.Insert table columns given) says = call_leaves p k n (stmts.Insert table columns given) says
turn_leaves p k n (stmts.Update table sets cs) says = call_leaves p k n (stmts.Update table sets cs) says
turn_leaves p k n (stmts.Delete table cs) says = call_leaves p k n (stmts.Delete table cs) says
turn_leaves p k n (stmts.Select list table cs for_update) says = call_leaves p k n (stmts.Select list table cs for_update) says
turn_leaves p k n (stmts.Commit comment) says = commit_leaves k n (unwrap_or comment []) (session_at k.sessions n).code (root_at k n) says
turn_leaves p k n (stmts.CommitForce id scn) says = forces_commit k n scn (branch_to_force p.names k.stored.durable.kept id) says
turn_leaves p k n stmts.Rollback says = rolls_back k n (root_at k n) says
turn_leaves p k n (stmts.RollbackForce id) says = forces_rollback k n (branch_to_force p.names k.stored.durable.kept id) says
turn_leaves p k n (stmts.Advise a) says = absurd (did_not n n dones.SessionAltered 0 says)
turn_leaves p k n (stmts.Recovery on) says = absurd (did_not n n dones.SystemAltered 0 says)
turn_leaves p k n (stmts.SetStrength strength) says = absurd (did_not n n dones.SystemAltered 0 says)
turn_leaves p k n stmts.SetReadOnly says = reads_leave p k n (session_at k.sessions n).root says
turn_leaves p k n (stmts.Savepoint name) says = savepoint_leaves p k n name says
turn_leaves p k n (stmts.RollbackTo name) says = back_leaves k n name says
turn_leaves p k n (stmts.PurgeMixed id) says = purge_leaves k n true id says
turn_leaves p k n (stmts.PurgeLost id) says = purge_leaves k n false id says

read_leaves : (p : Place) (k : NodeState) (n : ℕ) (s : Option Stmt) → Says n (read_turn p k n s).ended → Leaves k (read_turn p k n s)
read_leaves p k n None says = record { stored = refl; owns = refl; locks = refl; wrote = refl }
read_leaves p k n (Some s) says = turn_leaves p k n s says

pub refused_calls_leave_all : RefusedCallsLeaveAll
unfolding turn_of
refused_calls_leave_all p k (inputs.Call n s) says = let own = read_leaves p k n s says in record { stored = own.stored; owns = own.owns; locks = own.locks; wrote = own.wrote }
refused_calls_leave_all p k (inputs.GiveUp n) says = absurd says
refused_calls_leave_all p k (inputs.Message m) says = absurd says
refused_calls_leave_all p k inputs.Reco says = absurd says
refused_calls_leave_all p k inputs.Checkpoint says = absurd says
