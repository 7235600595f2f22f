-- The calls of clients: each form of statement in a session, and a call that is given up. (SQL Language Reference: COMMIT,
-- ROLLBACK, ALTER SESSION, ALTER SYSTEM, CREATE; Database Administrator's Guide, "Managing Distributed Transactions".)
pub use Rattle.node_rules.specs.Names.{is_write}
use Rattle.std.specs.Prelude.{ℕ, ◌+◌, ◌&&◌, ◌||◌, Bool, true, false, if◌then◌else◌, List, [], ◌∷◌, ◌++◌, unwrap_or, is_some, option_map, Option, Some, None}
use Rattle.std.specs.List.{list_any}
use Rattle.node_rules.specs.Data.{Table, Link, Synonym, Stmt, Done, Advice, Refusal, BranchId, RedoRecord, KeptRow, Durable, Live, Place, Going, Waits, PendingCall, Session}
use Rattle.node_rules.specs.Data.answers
use Rattle.node_rules.specs.Data.dones
use Rattle.node_rules.specs.Data.records
use Rattle.node_rules.specs.Data.params
use Rattle.node_rules.specs.Data.stmts
use Rattle.node_rules.specs.Data.kinds
use Rattle.node_rules.specs.Data.waiting
use Rattle.node_rules.specs.Data.pending
use Rattle.session_tree.specs.Live.{fresh_live, edge_at}
use Rattle.node_rules.specs.Ids.{decimal}
use Rattle.node_rules.specs.Words.{same_text, one, set_numbered}
use Rattle.node_rules.specs.Refusals.{ora, dtx}
use Rattle.node_rules.specs.Records.{with_record}
use Rattle.node_rules.specs.Sessions.{session_at, with_call, with_root, with_call_of, needs_rollback, no_transaction, commit_ended, commit_answer, tran_refusal}
use Rattle.node_rules.specs.Marks.{with_savepoint, savepoint_at, step_of}
use Rattle.node_rules.specs.Calls.{statement_at, strength_of, goes_back}
use Rattle.node_rules.specs.Prepare.{collects, with_comment, root_drops, to_children}
use Rattle.node_rules.specs.Commit.{knows_commit}
use Rattle.node_rules.specs.Force.{branch_to_force, force_commit, force_rollback, purge}
use Rattle.node_rules.specs.NodeState.{NodeState, TurnDraft, Branch, nothing, ending, with_branch, without_branch, live_at, branch_at, kept_row_at}

-- the call ends with a refusal
abbrev pub refuses : NodeState → ℕ → Refusal → TurnDraft
refuses k session refusal = ending k session (answers.Refused refusal)

-- the call ends with this done
abbrev pub did : NodeState → ℕ → Done → TurnDraft
did k session d = ending k session (answers.Did d 0)

-- the id of the session's next root
abbrev pub new_root : Place → NodeState → ℕ → BranchId
new_root p k n = record { node = p.number; boot = k.stored.durable.boot; session = n; seq = (session_at k.sessions n).seq + 1 }

-- a root that has just begun, and reads at an SCN where its transaction is READ ONLY
abbrev pub fresh_root : Place → NodeState → BranchId → Option ℕ → Live
fresh_root p k root read_at = fresh_live root root None 1 (strength_of p k) read_at

-- a transaction begins in a session that has none
abbrev pub begun_lives : Place → NodeState → ℕ → Option ℕ → Option BranchId → List Live
begun_lives p k n read_at (Some root) = k.lives
begun_lives p k n read_at None = k.lives ++ fresh_root p k (new_root p k n) read_at ∷ []

-- the session has a new root
abbrev pub begun_sessions : Place → NodeState → ℕ → Option BranchId → List Session
begun_sessions p k n (Some root) = k.sessions
begun_sessions p k n None = with_root k.sessions n (new_root p k n)

-- the node with a transaction in a session that has this one or none
abbrev pub begun_by : Place → NodeState → ℕ → Option ℕ → Option BranchId → NodeState
begun_by p k n read_at root = record k { lives = begun_lives p k n read_at root; sessions = begun_sessions p k n root }

-- the node with one call more of a session's transaction, where it has one
abbrev pub counted : NodeState → ℕ → NodeState
counted k n = record k { sessions = with_call_of k.sessions n (session_at k.sessions n).root }

-- the node with a transaction in this session, and its call counted
abbrev pub begun : Place → NodeState → ℕ → NodeState
begun p k n = counted (begun_by p k n None (session_at k.sessions n).root) n

-- the live branch of an id, where there is one
abbrev pub root_by : NodeState → Option BranchId → Option Branch
root_by k None = None
root_by k (Some root) = branch_at k root

-- the live root of a session
abbrev pub root_at : NodeState → ℕ → Option Branch
root_at k n = root_by k (session_at k.sessions n).root

-- DTX-21 where a READ ONLY transaction would write; its root says so before it looks for a table
abbrev pub allowed_at : Place → NodeState → ℕ → Branch → Stmt → TurnDraft
allowed_at p k n x s = if is_some x.live.read_at && is_write s then refuses k n (dtx 21 []) else statement_at p k x s 0

-- ORA-02067 where the transaction needs a rollback; a session with a transaction and no pending call has a live root
abbrev pub statement_by : Place → NodeState → ℕ → Stmt → Option ℕ → Option Branch → TurnDraft
statement_by p k n s code None = nothing k
statement_by p k n s (Some c) (Some x) = refuses k n (ora 2067 (one (decimal c)))
statement_by p k n s None (Some x) = allowed_at p k n x s

-- INSERT, UPDATE, DELETE and SELECT, at the session's root
abbrev pub statement_call : Place → NodeState → ℕ → Stmt → TurnDraft
statement_call p k n s = statement_by p k n s (session_at k.sessions n).code (root_at k n)

-- a root ends at once: its branch and its children are rolled back
abbrev pub leaves : NodeState → ℕ → Done → Branch → TurnDraft
leaves k n d x = record {
  after = record (without_branch k x.live.me) { sessions = set_numbered k.sessions n (no_transaction (session_at k.sessions n)) };
  wrote = None;
  says = to_children x.live kinds.Rollback;
  ended = (record { session = n; answer = answers.Did d 0 }) ∷ [];
}

-- COMMIT of a transaction: one that is READ ONLY has nothing to commit
abbrev pub commit_at : NodeState → ℕ → List ℕ → Branch → Option ℕ → TurnDraft
commit_at k n comment x (Some scn) = leaves k n dones.Committed x
commit_at k n comment x None = collects (record k { sessions = with_call k.sessions n pending.Commit }) (with_comment x.live comment) true

-- COMMIT: without a transaction it is complete
abbrev pub commit_by : NodeState → ℕ → List ℕ → Option ℕ → Option Branch → TurnDraft
commit_by k n comment code None = did k n dones.Committed
commit_by k n comment (Some c) (Some x) = refuses k n (ora 2067 (one (decimal c)))
commit_by k n comment None (Some x) = commit_at k n comment x x.live.read_at

-- COMMIT, with its comment
abbrev pub commit_call : NodeState → ℕ → Option (List ℕ) → TurnDraft
commit_call k n comment = commit_by k n (unwrap_or comment []) (session_at k.sessions n).code (root_at k n)

-- ROLLBACK
abbrev pub rollback_by : NodeState → ℕ → Option Branch → TurnDraft
rollback_by k n None = did k n dones.RolledBack
rollback_by k n (Some x) = leaves k n dones.RolledBack x

-- SET TRANSACTION READ ONLY: ORA-01453 in a transaction, else one begins that reads at the node's clock
abbrev pub read_only_by : Place → NodeState → ℕ → Option BranchId → TurnDraft
read_only_by p k n (Some root) = refuses k n (ora 1453 [])
read_only_by p k n None = did (begun_by p k n (Some k.clock) None) n dones.TransactionSet

-- a root with a savepoint at its step
abbrev pub marked : List Session → Branch → List ℕ → Branch
marked ss x name = record x { work = record x.work { marks = with_savepoint x.work.marks name (step_of ss x) } }

-- SAVEPOINT, or ORA-02067
abbrev pub savepoint_by : NodeState → ℕ → List ℕ → Option ℕ → Option Branch → TurnDraft
savepoint_by k n name code None = nothing k
savepoint_by k n name (Some c) (Some x) = refuses k n (ora 2067 (one (decimal c)))
savepoint_by k n name None (Some x) = did (with_branch k (marked k.sessions x name)) n dones.SavepointMade

-- SAVEPOINT, at the session's root
abbrev pub savepoint_call : NodeState → ℕ → List ℕ → TurnDraft
savepoint_call k n name = savepoint_by k n name (session_at k.sessions n).code (root_at k n)

-- a session tree goes back to a savepoint, or DTX-22
abbrev pub back_to_savepoint : NodeState → ℕ → List ℕ → Branch → Option ℕ → TurnDraft
back_to_savepoint k n name x None = refuses k n (dtx 22 (one name))
back_to_savepoint k n name x (Some step) = goes_back k x step

-- ROLLBACK TO: ORA-02067, or DTX-22 where there is no transaction
abbrev pub back_by : NodeState → ℕ → List ℕ → Option ℕ → Option Branch → TurnDraft
back_by k n name code None = refuses k n (dtx 22 (one name))
back_by k n name (Some c) (Some x) = refuses k n (ora 2067 (one (decimal c)))
back_by k n name None (Some x) = back_to_savepoint k n name x (savepoint_at x.work.marks name)

-- ROLLBACK TO, at the session's root
abbrev pub back_call : NodeState → ℕ → List ℕ → TurnDraft
back_call k n name = back_by k n name (session_at k.sessions n).code (root_at k n)

-- a statement that writes one record and is done
abbrev pub writes : NodeState → ℕ → RedoRecord → Done → TurnDraft
writes k n r d = record { after = with_record k r; wrote = Some r; says = []; ended = (record { session = n; answer = answers.Did d 0 }) ∷ [] }

-- whether a table or a synonym has this name
abbrev pub is_used : Durable → List ℕ → Bool
is_used d name = list_any (λ t. same_text t.name name) d.tables || list_any (λ y. same_text y.name name) d.synonyms

-- whether a link has this name
abbrev pub is_link : Durable → List ℕ → Bool
is_link d name = list_any (λ l. same_text l.name name) d.links

-- CREATE TABLE, or ORA-00955
abbrev pub create_table : NodeState → ℕ → Table → TurnDraft
create_table k n t = if is_used k.stored.durable t.name then refuses k n (ora 955 []) else writes k n (records.Table t) dones.TableMade

-- CREATE DATABASE LINK, or ORA-02011
abbrev pub create_link : NodeState → ℕ → Link → TurnDraft
create_link k n l = if is_link k.stored.durable l.name then refuses k n (ora 2011 []) else writes k n (records.Link l) dones.LinkMade

-- CREATE SYNONYM, or ORA-00955
abbrev pub create_synonym : NodeState → ℕ → Synonym → TurnDraft
create_synonym k n y = if is_used k.stored.durable y.name then refuses k n (ora 955 []) else writes k n (records.Synonym y) dones.SynonymMade

-- ALTER SESSION ADVISE
abbrev pub advise : NodeState → ℕ → Option Advice → TurnDraft
advise k n a = did (record k { sessions = set_numbered k.sessions n (record (session_at k.sessions n) { advice = a }) }) n dones.SessionAltered

-- ALTER SYSTEM ENABLE or DISABLE DISTRIBUTED RECOVERY
abbrev pub set_recovery : NodeState → ℕ → Bool → TurnDraft
set_recovery k n on = writes k n (records.Param (params.Recovery on)) dones.SystemAltered

-- ALTER SYSTEM SET COMMIT_POINT_STRENGTH
abbrev pub set_strength : NodeState → ℕ → ℕ → TurnDraft
set_strength k n strength = writes k n (records.Param (params.Strength strength)) dones.SystemAltered

-- each form of statement
abbrev pub call_turn : Place → NodeState → ℕ → Stmt → TurnDraft
call_turn p k n (stmts.CreateTable t) = create_table k n t
call_turn p k n (stmts.CreateLink l) = create_link k n l
call_turn p k n (stmts.CreateSynonym y) = create_synonym k n y
call_turn p k n (stmts.Insert table columns given) = statement_call p (begun p k n) n (stmts.Insert table columns given)
call_turn p k n (stmts.Update table sets cs) = statement_call p (begun p k n) n (stmts.Update table sets cs)
call_turn p k n (stmts.Delete table cs) = statement_call p (begun p k n) n (stmts.Delete table cs)
call_turn p k n (stmts.Select list table cs for_update) = statement_call p (begun p k n) n (stmts.Select list table cs for_update)
call_turn p k n (stmts.Commit comment) = commit_call k n comment
call_turn p k n (stmts.CommitForce id scn) = force_commit k n scn (branch_to_force p.names k.stored.durable.kept id)
call_turn p k n stmts.Rollback = rollback_by k n (root_at k n)
call_turn p k n (stmts.RollbackForce id) = force_rollback k n (branch_to_force p.names k.stored.durable.kept id)
call_turn p k n (stmts.Advise a) = advise k n a
call_turn p k n (stmts.Recovery on) = set_recovery k n on
call_turn p k n (stmts.SetStrength strength) = set_strength k n strength
call_turn p k n stmts.SetReadOnly = read_only_by p k n (session_at k.sessions n).root
call_turn p k n (stmts.Savepoint name) = savepoint_call (begun p k n) n name
call_turn p k n (stmts.RollbackTo name) = back_call (counted k n) n name
call_turn p k n (stmts.PurgeMixed id) = purge k n true id
call_turn p k n (stmts.PurgeLost id) = purge k n false id

-- a text outside the grammar has no statement
abbrev pub read_turn : Place → NodeState → ℕ → Option Stmt → TurnDraft
read_turn p k n None = refuses k n (ora 900 [])
read_turn p k n (Some s) = call_turn p k n s

-- ORA-02053 where the root knows the commit, else ORA-02054
abbrev pub given_up_code : Option KeptRow → ℕ
given_up_code None = 2054
given_up_code (Some s) = if knows_commit s.decision then 2053 else 2054

-- a live root rolls back, ORA-02050; a kept one answers what it knows
abbrev pub commit_given_up : NodeState → BranchId → Option Live → TurnDraft
commit_given_up k root (Some l) = root_drops k l (tran_refusal 2050 root)
commit_given_up k root None = record {
  after = record k { sessions = commit_ended k.sessions root };
  wrote = None;
  says = [];
  ended = commit_answer k.sessions root (tran_refusal (given_up_code (kept_row_at k root)) root);
}

-- the link of the child of a number
abbrev pub link_at : Live → ℕ → List ℕ
link_at l i = unwrap_or (option_map (λ e. e.link) (edge_at l i)) []

-- the link that a statement waits for
abbrev pub waits_on : Live → Waits → List ℕ
waits_on l (waiting.ForOpened link) = link
waits_on l (waiting.ForReply i) = link_at l i

-- the link of the root that a call waits for
abbrev pub waited_link : Live → Option Going → List ℕ
waited_link l None = []
waited_link l (Some g) = waits_on l g.waits

-- the branch waits for nothing
abbrev pub gives_up : Branch → Branch
gives_up x = record x { work = record x.work { going = None } }

-- DTX-03, which names the root's link; the transaction needs a rollback
abbrev pub statement_given_up : NodeState → ℕ → Option Branch → TurnDraft
statement_given_up k n None = nothing k
statement_given_up k n (Some x) = record {
  after = record (with_branch k (gives_up x)) { sessions = needs_rollback (with_call k.sessions n pending.NoCall) n (dtx 3 []).code };
  wrote = None;
  says = [];
  ended = (record { session = n; answer = answers.Refused (dtx 3 (one (waited_link x.live x.work.going))) }) ∷ [];
}

-- a statement, or a COMMIT, is given up
abbrev pub give_up_by : NodeState → ℕ → Option BranchId → PendingCall → TurnDraft
give_up_by k n None c = nothing k
give_up_by k n (Some root) pending.NoCall = nothing k
give_up_by k n (Some root) pending.Statement = statement_given_up k n (branch_at k root)
give_up_by k n (Some root) pending.Commit = commit_given_up k root (live_at k root)

-- a call is given up
abbrev pub give_up_turn : NodeState → ℕ → TurnDraft
give_up_turn k n = give_up_by k n (session_at k.sessions n).root (session_at k.sessions n).call
