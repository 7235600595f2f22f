-- Statements on their way through the session tree: Open and Opened, Exec with its call numbers, Reply, and the end of a
-- call; and a session tree that goes back to a savepoint, one child after the other. (Database Administrator's Guide, "Distributed Transactions Concepts": session trees, local and global coordinators.)
use Rattle.std.specs.Prelude.{ℕ, ◌+◌, ◌-◌, ◌==◌, ◌&&◌, Bool, false, if◌then◌else◌, List, [], ◌∷◌, ◌++◌, length, unwrap_or, is_none, Option, Some, None}
unfoldable pub use Rattle.link_session.specs.Calls.{admit}
pub use Rattle.link_session.specs.Opens.{is_opening}
use Rattle.link_session.specs.Calls.{taken}
use Rattle.link_session.specs.Opens.{opening_of, with_opening}
use Rattle.node_rules.specs.Data.{Table, Stmt, Answer, Advice, BranchId, Edge, Live, Place, ReplyFields, Task, Errand, Going, Waits, Work, Admit, Opening, Session, Finished, Post}
use Rattle.node_rules.specs.Data.answers
use Rattle.node_rules.specs.Data.dones
use Rattle.node_rules.specs.Data.tasks
use Rattle.node_rules.specs.Data.errands
use Rattle.node_rules.specs.Data.kinds
use Rattle.node_rules.specs.Data.waiting
use Rattle.node_rules.specs.Data.admits
use Rattle.node_rules.specs.Data.pending
use Rattle.session_tree.specs.Live.{fresh_live, new_edge, add_edge, next_edge, edge_at, peer_of}
use Rattle.node_rules.specs.Words.{same, one, numbered, set_numbered}
use Rattle.node_rules.specs.Refusals.{dtx}
use Rattle.session_tree.specs.Tree.{weight, count, room}
use Rattle.node_rules.specs.Names.{Way, Runs_here, Over, Through, Nowhere_to, way_of, passed_on}
use Rattle.node_rules.specs.Statement.{StmtOutcome, ran, node_after_run, after_run, answer_of_run}
use Rattle.node_rules.specs.Sessions.{session_at, with_call, needs_rollback}
use Rattle.node_rules.specs.Marks.{with_note, step_of, marks_after, call_note, kept_call, next_back, node_back, branch_back}
use Rattle.node_rules.specs.NodeState.{NodeState, TurnDraft, Branch, nothing, saying, post, with_branch}

-- at a root the session's call is pending from now on
abbrev pub call_pends : List Session → Live → List Session
call_pends ss l = if is_none l.parent then with_call ss l.me.session pending.Statement else ss

-- what a Reply says: the weight, the branches of the subtree, the result
abbrev pub reply_fields : Live → Answer → ReplyFields
reply_fields l a = record { weight = weight l; count = count l; result = a }

-- a Reply to the last call
abbrev pub replies : Branch → BranchId → ReplyFields → List Post
replies x to t = post x.live.me to (kinds.Reply x.work.came.last_call t.weight t.count t.result)

-- below the root the answer is kept, for a call that comes again
abbrev pub kept_reply : Branch → Answer → Option BranchId → Option ReplyFields
kept_reply x a None = x.work.came.reply
kept_reply x a (Some parent) = Some (reply_fields x.live a)

-- the branch with its statement answered
abbrev pub with_answer : Branch → Answer → Branch
with_answer x a = record x { work = record x.work { going = None; came = record x.work.came { reply = kept_reply x a x.live.parent } } }

-- at a root the session's call ends
abbrev pub answered_sessions : List Session → Live → Option BranchId → List Session
answered_sessions ss l None = with_call ss l.me.session pending.NoCall
answered_sessions ss l (Some parent) = ss

-- below the root the answer goes to the parent
abbrev pub answer_says : Branch → Answer → Option BranchId → List Post
answer_says x a None = []
answer_says x a (Some parent) = replies x parent (reply_fields x.live a)

-- at a root it ends the call
abbrev pub answer_ends : Live → Answer → Option BranchId → List Finished
answer_ends l a None = (record { session = l.me.session; answer = a }) ∷ []
answer_ends l a (Some parent) = []

-- the statement at this branch is answered
abbrev pub answered : NodeState → Branch → Answer → TurnDraft
answered k x a = record {
  after = record (with_branch k (with_answer x a)) { sessions = answered_sessions k.sessions x.live x.live.parent };
  wrote = None;
  says = answer_says x a x.live.parent;
  ended = answer_ends x.live a x.live.parent;
}

-- the advice that an Exec carries: at a root the session's, elsewhere that of the last Exec taken
abbrev pub advice_of : List Session → Live → Option Advice
advice_of ss l = if is_none l.parent then (session_at ss l.me.session).advice else l.advice

-- the next call number of an edge
abbrev pub next_call : Work → ℕ → ℕ
next_call w i = unwrap_or (numbered w.calls i) 0 + 1

-- what the child of a number is called for: a statement, with the room left and the advice, or to go back to the last call
-- that stays
abbrev pub task_for : List Session → Branch → ℕ → Errand → Task
task_for ss x i (errands.Statement s given) = tasks.Run (room x.live given) (advice_of ss x.live) s
task_for ss x i (errands.GoBack step) = tasks.GoBack (kept_call x.work.marks step i)

-- the Exec to a child
abbrev pub exec_to : List Session → Branch → ℕ → Errand → Option BranchId → List Post
exec_to ss x i e None = []
exec_to ss x i e (Some peer) = post x.live.me peer (kinds.Exec (next_call x.work i) (task_for ss x i e))

-- the call numbers with one more call of an edge
abbrev pub calls_with : Work → ℕ → List ℕ
calls_with w i = set_numbered w.calls i (next_call w i)

-- the branch waits for a Reply over an edge, and has noted the call
abbrev pub called : List Session → Branch → ℕ → Errand → Branch
called ss x i e = record x {
  work = record x.work {
    calls = calls_with x.work i;
    going = Some (record { errand = e; waits = waiting.ForReply i });
    marks = with_note x.work.marks (call_note (step_of ss x) (calls_with x.work i));
  };
}

-- the errand goes on over an edge
abbrev pub calls_over : NodeState → Branch → ℕ → Errand → TurnDraft
calls_over k x i e = record {
  after = record (with_branch k (called k.sessions x i e)) { sessions = call_pends k.sessions x.live };
  wrote = None;
  says = exec_to k.sessions x i e (peer_of x.live i);
  ended = [];
}

-- the receiver of an Open: a node, and no branch of it yet
abbrev pub nobody_at : ℕ → BranchId
nobody_at node = record { node = node; boot = 0; session = 0; seq = 0 }

-- the branch waits for a new child
abbrev pub waits_for_opened : Branch → List ℕ → Stmt → ℕ → Branch
waits_for_opened x link s given = record x { work = record x.work { going = Some (record { errand = errands.Statement s given; waits = waiting.ForOpened link }) } }

-- a link is used for the first time: Open goes to its node, with the SCN of a READ ONLY transaction
abbrev pub opens_through : NodeState → Branch → ℕ → List ℕ → Stmt → ℕ → TurnDraft
opens_through k x node link s given = record {
  after = record (with_branch k (waits_for_opened x link s given)) { sessions = call_pends k.sessions x.live };
  wrote = None;
  says = post x.live.me (nobody_at node) (kinds.Open (next_edge x.live) x.live.root (x.live.depth + 1) x.live.read_at);
  ended = [];
}

-- the branch after a run, which it notes
abbrev pub branch_ran : List Session → Branch → Table → StmtOutcome → Branch
branch_ran ss x t r = record { live = after_run x.live r; work = record x.work { marks = marks_after x.work (step_of ss x) t r } }

-- the statement runs at this node, and is answered
abbrev pub runs_here : Place → NodeState → Branch → Stmt → Table → TurnDraft
runs_here p k x s t =
    answered (node_after_run k x.live.me t (ran p k x.live.me s t)) (branch_ran k.sessions x t (ran p k x.live.me s t)) (answer_of_run (ran p k x.live.me s t))

-- the statement runs here, is refused, or goes on
abbrev pub goes : Place → NodeState → Branch → Stmt → ℕ → Way → TurnDraft
goes p k x s given (Runs_here t) = runs_here p k x s t
goes p k x s given (Nowhere_to r) = answered k x (answers.Refused r)
goes p k x s given (Over i table) = calls_over k x i (errands.Statement (passed_on s table) given)
goes p k x s given (Through node link table) = opens_through k x node link (passed_on s table) given

-- a statement at a live branch
abbrev pub statement_at : Place → NodeState → Branch → Stmt → ℕ → TurnDraft
statement_at p k x s given = goes p k x s given (way_of p k.stored.durable x.live given s)

-- the id of the next branch that is opened over a link: sessions 65, 66, .. in the order of opening
abbrev pub next_child : Place → NodeState → BranchId
next_child p k = record { node = p.number; boot = k.stored.durable.boot; session = 65 + length k.opens; seq = 1 }

-- the node's commit point strength: the one that was set, or else that of its NODE command
abbrev pub strength_of : Place → NodeState → ℕ
strength_of p k = unwrap_or k.stored.durable.strength p.strength

-- an Open that made a branch
abbrev pub new_opening : Place → NodeState → BranchId → ℕ → Opening
new_opening p k parent edge = record { parent = parent; edge = edge; child = next_child p k; strength = strength_of p k }

-- a branch begins for its parent
abbrev pub opens_branch : Place → NodeState → BranchId → ℕ → BranchId → ℕ → Option ℕ → NodeState
opens_branch p k parent edge root depth read_at = record k {
  lives = k.lives ++ fresh_live (next_child p k) root (Some parent) depth (strength_of p k) read_at ∷ [];
  opens = with_opening k.opens (new_opening p k parent edge);
}

-- Opened, with the strength that is told
abbrev pub opened_says : Opening → List Post
opened_says o = post o.child o.parent (kinds.Opened o.edge o.strength)

-- an Open that comes again gets the same Opened; one that comes first begins a branch
abbrev pub open_by : Place → NodeState → BranchId → ℕ → BranchId → ℕ → Option ℕ → Option Opening → TurnDraft
open_by p k parent edge root depth read_at (Some o) = saying k (opened_says o)
open_by p k parent edge root depth read_at None = saying (opens_branch p k parent edge root depth read_at) (opened_says (new_opening p k parent edge))

-- a message Open
abbrev pub on_open : Place → NodeState → BranchId → ℕ → BranchId → ℕ → Option ℕ → TurnDraft
on_open p k parent edge root depth read_at = open_by p k parent edge root depth read_at (opening_of k.opens parent edge)

-- with one more child, to which no call was made
abbrev pub with_edge : Branch → Edge → Branch
with_edge x e = record { live = add_edge x.live e; work = record x.work { calls = x.work.calls ++ 0 ∷ [] } }

-- an errand from then on: a statement has room for one branch less
abbrev pub less_room : Errand → Errand
less_room (errands.Statement s given) = errands.Statement s (given - 1)
less_room (errands.GoBack step) = errands.GoBack step

-- what waited for this link goes on
abbrev pub opened_waits : NodeState → Branch → BranchId → ℕ → Going → Waits → TurnDraft
opened_waits k x from strength g (waiting.ForReply i) = nothing k
opened_waits k x from strength g (waiting.ForOpened link) = calls_over k (with_edge x (new_edge from link strength)) (next_edge x.live) (less_room g.errand)

-- the Opened of the edge that is waited for; any other is ignored
abbrev pub opened_going : NodeState → Branch → BranchId → ℕ → ℕ → Option Going → TurnDraft
opened_going k x from edge strength None = nothing k
opened_going k x from edge strength (Some g) = if edge == next_edge x.live then opened_waits k x from strength g g.waits else nothing k

-- a message Opened at a live branch
abbrev pub on_opened : NodeState → Branch → BranchId → ℕ → ℕ → TurnDraft
on_opened k x from edge strength = opened_going k x from edge strength x.work.going

-- a branch with the advice that came with a statement
abbrev pub advised_by : Live → Task → Live
advised_by l (tasks.Run given advice s) = record l { advice = advice }
advised_by l (tasks.GoBack keep) = l

-- the branch takes a call, with the advice that came with it
abbrev pub takes_call : Branch → ℕ → Task → Branch
takes_call x call task = record { live = advised_by x.live task; work = record x.work { came = taken call } }

-- the answer that was given before
abbrev pub says_again : Branch → BranchId → Option ReplyFields → List Post
says_again x to None = []
says_again x to (Some t) = replies x to t

-- ---- going back to a savepoint

-- the next child is called to go back; without one the branch is back, and says so
abbrev pub backs_to : NodeState → Branch → ℕ → Option ℕ → TurnDraft
backs_to k x step None = answered k x (answers.Did dones.RolledBack 0)
backs_to k x step (Some i) = calls_over k x i (errands.GoBack step)

-- the children from this number on go back, one after the other
abbrev pub backs_from : NodeState → Branch → ℕ → ℕ → TurnDraft
backs_from k x step i = backs_to k x step (next_back x.work step i)

-- a branch goes back to a step, and then its children do
abbrev pub goes_back : NodeState → Branch → ℕ → TurnDraft
goes_back k x step = backs_from (node_back k x step) (branch_back k x step) step 1

-- what a branch was called for
abbrev pub task_at : Place → NodeState → Branch → Task → TurnDraft
task_at p k x (tasks.Run given advice s) = statement_at p k x s given
task_at p k x (tasks.GoBack keep) = goes_back k x keep

-- a first number is run, the last one answered again once it was answered, any other ignored
abbrev pub exec_by : Place → NodeState → Branch → BranchId → ℕ → Task → Admit → TurnDraft
exec_by p k x from call task admits.Ignore = nothing k
exec_by p k x from call task admits.Again = saying k (says_again x from x.work.came.reply)
exec_by p k x from call task admits.Run = task_at p k (takes_call x call task) task

-- a message Exec at a live branch
abbrev pub on_exec : Place → NodeState → Branch → BranchId → ℕ → Task → TurnDraft
on_exec p k x from call task = exec_by p k x from call task (admit x.work.came call)

-- the child with the weight and the branches that its Reply tells
abbrev pub hears_reply : Branch → ℕ → Option ℕ → ℕ → Edge → Branch
hears_reply x i weight count e = record x { live = record x.live { edges = set_numbered x.live.edges i (record e { weight = weight; count = count }) } }

-- whether a result is the refusal of a gone branch
abbrev pub is_gone : Answer → Bool
is_gone (answers.Refused r) = r.code == (dtx 8 []).code
is_gone _ = false

-- the result is the answer here too; at a root the refusal of a gone branch is DTX-08 with the root's link
abbrev pub heard_answer : Live → List ℕ → Answer → Answer
heard_answer l link a = if is_none l.parent && is_gone a then answers.Refused (dtx 8 (one link)) else a

-- and the transaction needs a rollback
abbrev pub heard_sessions : List Session → Live → Answer → List Session
heard_sessions ss l a = if is_none l.parent && is_gone a then needs_rollback ss l.me.session (dtx 8 []).code else ss

-- a Reply is heard
abbrev pub reply_heard : NodeState → Branch → List ℕ → Answer → TurnDraft
reply_heard k x link a = answered (record k { sessions = heard_sessions k.sessions x.live a }) x (heard_answer x.live link a)

-- a child that was called to go back has done so, or refuses, which ends the errand
abbrev pub back_heard : NodeState → Branch → ℕ → ℕ → List ℕ → Answer → TurnDraft
back_heard k x step i link (answers.Refused r) = reply_heard k x link (answers.Refused r)
back_heard k x step i link a = backs_from k x step (i + 1)

-- a Reply over an edge, by what is under way
abbrev pub errand_heard : NodeState → Branch → ℕ → List ℕ → Answer → Errand → TurnDraft
errand_heard k x i link a (errands.Statement s given) = reply_heard k x link a
errand_heard k x i link a (errands.GoBack step) = back_heard k x step i link a

-- the same where something is under way
abbrev pub going_heard : NodeState → Branch → ℕ → List ℕ → Answer → Option Going → TurnDraft
going_heard k x i link a None = nothing k
going_heard k x i link a (Some g) = errand_heard k x i link a g.errand

-- the edge whose last call a Reply answers
abbrev pub reply_edge : Branch → BranchId → ℕ → ℕ → Option Edge → Option (ℕ × Edge)
reply_edge x from call i None = None
reply_edge x from call i (Some e) = if same e.peer from && (unwrap_or (numbered x.work.calls i) 0 == call) then Some (i, e) else None

-- the edge, where the statement waits for a Reply
abbrev pub reply_waits : Branch → BranchId → ℕ → Waits → Option (ℕ × Edge)
reply_waits x from call (waiting.ForOpened link) = None
reply_waits x from call (waiting.ForReply i) = reply_edge x from call i (edge_at x.live i)

-- the edge, where a statement is under way
abbrev pub reply_going : Branch → BranchId → ℕ → Option Going → Option (ℕ × Edge)
reply_going x from call None = None
reply_going x from call (Some g) = reply_waits x from call g.waits

-- the edge whose last call a Reply answers, where the branch waits for it
unfoldable pub reply_of : Branch → BranchId → ℕ → Option (ℕ × Edge)
reply_of x from call = reply_going x from call x.work.going

-- a Reply that is waited for is heard, any other is ignored
abbrev pub reply_by : NodeState → Branch → Option ℕ → ℕ → Answer → Option (ℕ × Edge) → TurnDraft
reply_by k x weight count a None = nothing k
reply_by k x weight count a (Some ie) = going_heard k (hears_reply x ie.0 weight count ie.1) ie.0 ie.1.link a x.work.going

-- a message Reply at a live branch
abbrev pub on_reply : NodeState → Branch → BranchId → ℕ → Option ℕ → ℕ → Answer → TurnDraft
on_reply k x from call weight count a = reply_by k x weight count a (reply_of x from call)

-- a gone branch refuses a call
abbrev pub gone_reply : BranchId → BranchId → ℕ → List Post
gone_reply me to call = post me to (kinds.Reply call None 1 (answers.Refused (dtx 8 [])))
