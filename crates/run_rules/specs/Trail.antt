-- What each happening adds to what is known of branches. (Database Administrator's Guide, "Distributed Transactions
-- Concepts".)
use Rattle.std.specs.Prelude.{ℕ, ◌+◌, ◌==◌, ◌&&◌, ◌||◌, not, Bool, true, false, if◌then◌else◌, List, [], ◌∷◌, ◌++◌, map, filter, length, max, nat_le, is_none, is_some, Option, Some, None}
use Rattle.std.specs.List.{list_any}
use Rattle.node_rules.specs.Data.{Stmt, Answer, BranchId, RedoRecord, Kind, Msg, Input, Place, Savepoint}
use Rattle.node_rules.specs.Data.records
use Rattle.node_rules.specs.Data.kinds
use Rattle.node_rules.specs.Data.stmts
use Rattle.node_rules.specs.Data.inputs
use Rattle.session_tree.specs.Live.{is_branch}
use Rattle.node_rules.specs.Words.{same, same_text}
use Rattle.redo_record.specs.Durable.{durable}
use Rattle.node_rules.specs.NodeState.{NodeState, TurnOutput}
use Rattle.run_rules.specs.Data.{Command, Entry, Finished, Took, Turn, Happening}
use Rattle.run_rules.specs.Data.happenings
use Rattle.run_rules.specs.Lawful.{boots}
use Rattle.run_rules.specs.Facts.{Facts, records_at, node_at, outcome_at, facts_after}
use Rattle.run_rules.specs.Branches.{Exit, Sealed, Decided, Quiet, Dropped, Run, Ran, Seen, Trail, CommitPlan, Origin, newly_seen, own_changes, seen_at, is_live, root_at, is_root_of, is_among, with_once, all_voted, plan_at, origin_at, is_live_at}
use Rattle.run_rules.specs.Tree.{plan}
use Rattle.run_rules.specs.Births.{read_at_by}
use Rattle.run_rules.specs.Runs.{Asking, GoneBack, asks, begins_transaction, is_counted, run_in, answered_by, is_accepted, is_refused, goes_back, ran_by}

-- ---- branches begin

-- how many transactions a session has begun since its node started
abbrev pub begun_in : Trail → ℕ → ℕ → ℕ → ℕ
begun_in tr n boot session = length (filter (λ s. (s.me.node == n) && ((s.me.boot == boot) && (s.me.session == session))) tr.seen)

-- the next root of a session
abbrev pub next_root : Facts → Trail → ℕ → ℕ → BranchId
next_root f tr n session = record { node = n; boot = boots (records_at f n); session = session; seq = begun_in tr n (boots (records_at f n)) session + 1 }

-- the commit point strength that a node's records set last
abbrev pub strength_at : Facts → ℕ → Option ℕ
strength_at f n = (durable (records_at f n)).strength

-- the clock of a node
abbrev pub clock_of : Option NodeState → ℕ
clock_of None = 0
clock_of (Some k) = k.clock

-- a root that has just begun, with this statement
abbrev pub root_seen : Facts → ℕ → Stmt → BranchId → Seen
root_seen f n s root = newly_seen root root None (strength_at f n) (read_at_by (clock_of (node_at f n)) s)

-- a root begins where a session that has no transaction calls a statement that begins one
abbrev pub roots_begun : Facts → Trail → ℕ → Input → List Seen
roots_begun f tr n (inputs.Call session (Some s)) = if begins_transaction s && is_none (root_at tr n session) then root_seen f n s (next_root f tr n session) ∷ [] else []
roots_begun f tr n _ = []

-- another branch begins with the first Opened that is sent for it
abbrev pub child_begun : Facts → Trail → Kind → Kind → Msg → List Seen
child_begun f tr (kinds.Open edge root depth read_at) (kinds.Opened number strength) m =
    if is_none (seen_at tr m.from) then newly_seen m.from root (Some m.to) (strength_at f m.from.node) read_at ∷ [] else []
child_begun f tr _ _ m = []

-- the branch that begins with the Opened to an Open
abbrev pub children_begun : Facts → Trail → Input → List Msg → List Seen
children_begun f tr (inputs.Message came) (m ∷ ms) = child_begun f tr came.kind m.kind m
children_begun f tr _ _ = []

-- the branches that begin in a turn; a cut turn begins none
abbrev pub begun_in_turn : Facts → Trail → Turn → List Seen
begun_in_turn f tr u = if u.cut then [] else roots_begun f tr u.node u.input ++ children_begun f tr u.input u.sent

-- ---- what a turn tells of a branch that began

-- whether a message is an answer to Prepare
abbrev pub is_vote : Kind → Bool
is_vote kinds.Prepared = true
is_vote kinds.ReadOnly = true
is_vote kinds.Ready = true
is_vote kinds.Abort = true
is_vote _ = false

-- whether it is Abort
abbrev pub is_abort : Kind → Bool
is_abort kinds.Abort = true
is_abort _ = false

-- whether a child's first answer to Prepare is this message
abbrev pub is_first_vote : Seen → Msg → Bool
is_first_vote s m = (same m.to s.me && is_vote m.kind) && ((is_live s && s.collects) && (is_among m.from s.children && not (is_among m.from s.voted)))

-- the children that have answered
abbrev pub voted_after : Seen → Input → List BranchId
voted_after s (inputs.Message m) = if is_first_vote s m then s.voted ++ m.from ∷ [] else s.voted
voted_after s _ = s.voted

-- whether this is a COMMIT of a live root that is not refused
abbrev pub accepts_commit : ℕ → Option Answer → Seen → Input → Bool
accepts_commit n answer s (inputs.Call session (Some (stmts.Commit comment))) = is_root_of n session s && not (is_refused answer)
accepts_commit n answer s _ = false

-- whether a COMMIT begins its collect: a READ ONLY transaction has nothing to commit
abbrev pub commits : ℕ → Option Answer → Seen → Input → Bool
commits n answer s input = is_none s.read_at && accepts_commit n answer s input

-- whether it is a Prepare of a live branch
abbrev pub is_prepare : Kind → Bool
is_prepare (kinds.Prepare site_below comment) = true
is_prepare _ = false

-- whether a branch's collect begins
abbrev pub begins_collect : ℕ → Option Answer → Seen → Input → Bool
begins_collect n answer s (inputs.Message m) = same m.to s.me && (is_live s && is_prepare m.kind)
begins_collect n answer s input = commits n answer s input

-- whether a message is an Exec
abbrev pub is_exec : Kind → Bool
is_exec (kinds.Exec call task) = true
is_exec _ = false

-- with the receivers of the Execs that a branch sends
abbrev pub children_after : BranchId → List BranchId → List Msg → List BranchId
children_after b cs [] = cs
children_after b cs (m ∷ ms) = children_after b (if same m.from b && is_exec m.kind then with_once cs m.to else cs) ms

-- the call number of an Exec that came to a live branch
abbrev pub taken_by : ℕ → Kind → ℕ
taken_by taken (kinds.Exec call task) = max taken call
taken_by taken _ = taken

-- the greatest call number; at a root one more with each call of its client that counts
abbrev pub taken_after : ℕ → Seen → Input → ℕ
taken_after n s (inputs.Message m) = if same m.to s.me && is_live s then taken_by s.taken m.kind else s.taken
taken_after n s (inputs.Call session (Some statement)) = if is_root_of n session s && is_counted statement then s.taken + 1 else s.taken
taken_after n s _ = s.taken

-- the statement that came to this branch, or the one before
abbrev pub asked_after : Seen → Option Asking → Option Stmt
asked_after s None = s.asked
asked_after s (Some a) = if same a.branch.me s.me then Some a.statement else s.asked

-- those whose Ack came
abbrev pub acked_by : Seen → Msg → Kind → List BranchId
acked_by s m kinds.Ack = if same m.to s.me then with_once s.acks m.from else s.acks
acked_by s m _ = s.acks

-- those whose Ack came, with the one that comes now
abbrev pub acks_after : Seen → Input → List BranchId
acks_after s (inputs.Message m) = acked_by s m m.kind
acks_after s _ = s.acks

-- whether an accepted run is this branch's
abbrev pub runs_for : Seen → Option Run → Option Answer → Bool
runs_for s None answer = false
runs_for s (Some r) answer = same r.branch s.me && is_accepted answer

-- ---- how it stops being live

-- by the record that the turn wrote
abbrev pub recorded_exit : BranchId → Option RedoRecord → Option Exit
recorded_exit b (Some (records.Sealed r)) = if same r.me b then Some (Sealed r.scn) else None
recorded_exit b (Some (records.Decided r)) = if same r.me b then Some (Decided r.scn) else None
recorded_exit b _ = None

-- whether it is ReadOnly
abbrev pub is_read_only : Kind → Bool
is_read_only kinds.ReadOnly = true
is_read_only _ = false

-- ReadOnly is sent for it
abbrev pub is_quiet : BranchId → Msg → Bool
is_quiet b m = same m.from b && is_read_only m.kind

-- a message drops a live branch: Rollback; RolledBack or Ask from its parent
abbrev pub kind_drops : Seen → BranchId → Kind → Bool
kind_drops s from kinds.Rollback = true
kind_drops s from kinds.RolledBack = is_branch from s.parent
kind_drops s from kinds.Ask = is_branch from s.parent
kind_drops s from _ = false

-- a message drops a live branch that gets it, and so does Abort as a child's first answer
abbrev pub message_drops : Seen → Msg → Bool
message_drops s m = (same m.to s.me && kind_drops s m.from m.kind) || (is_first_vote s m && is_abort m.kind)

-- whether a COMMIT was accepted whose session tree has no site, since none of its branches has changes
abbrev pub has_no_site : Option CommitPlan → Bool
has_no_site None = false
has_no_site (Some p) = is_none p.site

-- a root ends without a site when its collect is complete
abbrev pub ends_siteless : Trail → Seen → Bool
ends_siteless tr s = is_none s.parent && (s.collects && (all_voted s && has_no_site (plan_at tr s.me)))

-- an input with this answer drops a live branch: a rollback, ROLLBACK at a root, COMMIT at that of a READ ONLY transaction, or
-- a COMMIT that is given up
abbrev pub input_drops : ℕ → Option Answer → Seen → Input → Bool
input_drops n answer s (inputs.Call session (Some stmts.Rollback)) = is_root_of n session s
input_drops n answer s (inputs.Call session (Some (stmts.Commit comment))) = is_some s.read_at && accepts_commit n answer s (inputs.Call session (Some (stmts.Commit comment)))
input_drops n answer s (inputs.GiveUp session) = is_root_of n session s && s.collects
input_drops n answer s (inputs.Message m) = message_drops s m
input_drops n answer s _ = false

-- how a live branch stops being so in a turn that is whole
abbrev pub whole_exit : Trail → Turn → Option Answer → Seen → Seen → Option Exit
whole_exit tr u answer old new =
    if list_any (is_quiet old.me) u.sent then Some Quiet else (if input_drops u.node answer old u.input || ends_siteless tr new then Some Dropped else None)

-- the record counts first, and of a cut turn alone
abbrev pub exit_by : Trail → Turn → Option Answer → Seen → Seen → Option Exit → Option Exit
exit_by tr u answer old new (Some e) = Some e
exit_by tr u answer old new None = if u.cut then None else whole_exit tr u answer old new

-- a branch stops being live once
abbrev pub exit_after : Trail → Turn → Option Answer → Seen → Seen → Option Exit → Option Exit
exit_after tr u answer old new (Some e) = Some e
exit_after tr u answer old new None = exit_by tr u answer old new (recorded_exit old.me u.wrote)

-- ---- the runs that answers came from

-- the run that a branch's last answer came from
abbrev pub last_answer : Option Seen → Option Run
last_answer None = None
last_answer (Some s) = if is_live s then s.answer else None

-- a Reply brings the run of its answer, an Exec that comes again asks for the last answer
abbrev pub handed_on : Trail → ℕ → BranchId → Kind → Option Run
handed_on tr number to (kinds.Reply call weight count a) = origin_at tr number
handed_on tr number to (kinds.Exec call task) = last_answer (seen_at tr to)
handed_on tr number to _ = None

-- the run that comes with a message
abbrev pub brought : Trail → Option Took → Input → Option Run
brought tr (Some t) (inputs.Message m) = handed_on tr t.number m.to m.kind
brought tr _ _ = None

-- the run that an answer of this turn comes from: the turn's own; none where a statement came and did not run, or a branch
-- went back
abbrev pub origin_by : Trail → Turn → Option Asking → Option GoneBack → Option Run → Option Run
origin_by tr u asking back (Some r) = Some r
origin_by tr u (Some a) back None = None
origin_by tr u None (Some g) None = None
origin_by tr u None None None = brought tr u.took u.input

-- whether a message is a Reply
abbrev pub is_reply : Kind → Bool
is_reply (kinds.Reply call weight count a) = true
is_reply _ = false

-- the calls that a turn ends
abbrev pub ended_by : Option TurnOutput → List Finished
ended_by None = []
ended_by (Some o) = o.ended

-- whether a branch answers in a turn, to its parent or to its client
abbrev pub answers : Turn → Option TurnOutput → Seen → Bool
answers u o s = list_any (λ m. same m.from s.me && is_reply m.kind) u.sent || list_any (λ x. is_root_of u.node x.session s) (ended_by o)

-- the Replies of a turn, whose first message has this number, with the run that they come from
abbrev pub origins_of : ℕ → Option Run → List Msg → List Origin
origins_of k (Some r) (m ∷ ms) = if is_reply m.kind then (record { message = k; run = r }) ∷ origins_of (k + 1) (Some r) ms else origins_of (k + 1) (Some r) ms
origins_of k _ _ = []

-- ---- a turn

-- What a turn brings, beside its record and its messages: the statement that came, the branch that goes back, the run, the
-- answer, where that comes from.
pub record Brought : Type 0 where
  pub asking : Option Asking
  pub back : Option GoneBack
  pub run : Option Run
  pub answer : Option Answer
  pub origin : Option Run

-- the branch that goes back in a turn; in a cut turn none does
abbrev pub back_in : Trail → Turn → Option Answer → Option GoneBack
back_in tr u answer = if u.cut then None else goes_back tr u.node answer u.input

-- what a turn that came to this brings
abbrev pub brought_by : Facts → Trail → Turn → Option TurnOutput → Brought
brought_by f tr u o = record {
  asking = asks tr u.node u.input;
  back = back_in tr u (answered_by o);
  run = run_in f tr u;
  answer = answered_by o;
  origin = origin_by tr u (asks tr u.node u.input) (back_in tr u (answered_by o)) (run_in f tr u);
}

-- the runs of a branch with one that was accepted, at a step
abbrev pub runs_with : Bool → List Entry → ℕ → Seen → Option Run → List Ran
runs_with true book step s (Some r) = s.runs ++ ran_by book step s.read_at (own_changes s) r ∷ []
runs_with _ book step s _ = s.runs

-- the step that a branch goes back to, where it does
abbrev pub step_back : BranchId → Option GoneBack → Option ℕ
step_back b None = None
step_back b (Some g) = if same g.branch b then Some g.step else None

-- the runs without those of later steps, where the branch goes back
abbrev pub runs_back : Option ℕ → List Ran → List Ran
runs_back None rs = rs
runs_back (Some step) rs = filter (λ r. nat_le r.step step) rs

-- a savepoint in the place of one of its name
abbrev pub with_savepoint : List Savepoint → List ℕ → ℕ → List Savepoint
with_savepoint ss name step = filter (λ s. not (same_text s.name name)) ss ++ (record { name = name; step = step }) ∷ []

-- SAVEPOINT at a root sets one at the step of its call, unless it is refused
abbrev pub savepoints_set : ℕ → Option Answer → ℕ → Seen → Input → List Savepoint
savepoints_set n answer step s (inputs.Call session (Some (stmts.Savepoint name))) =
    if is_root_of n session s && not (is_refused answer) then with_savepoint s.savepoints name step else s.savepoints
savepoints_set n answer step s _ = s.savepoints

-- the savepoints without later ones, where the branch goes back
abbrev pub savepoints_back : Option ℕ → List Savepoint → List Savepoint
savepoints_back None ss = ss
savepoints_back (Some step) ss = filter (λ s. nat_le s.step step) ss

-- a branch after a turn, apart from its exit
abbrev pub with_turn : List Entry → Turn → Option TurnOutput → Brought → Seen → Seen
with_turn book u o brings s = record s {
  taken = taken_after u.node s u.input;
  asked = asked_after s brings.asking;
  answer = if answers u o s then brings.origin else s.answer;
  children = children_after s.me s.children u.sent;
  collects = s.collects || begins_collect u.node brings.answer s u.input;
  voted = voted_after s u.input;
  acks = acks_after s u.input;
  runs = runs_back (step_back s.me brings.back) (runs_with (runs_for s brings.run brings.answer) book (taken_after u.node s u.input) s brings.run);
  savepoints = savepoints_back (step_back s.me brings.back) (savepoints_set u.node brings.answer (taken_after u.node s u.input) s u.input);
}

-- a branch after a turn
abbrev pub after_turn : List Entry → Trail → Turn → Option TurnOutput → Brought → Seen → Seen
after_turn book tr u o brings s = record (with_turn book u o brings s) { exit = exit_after tr u brings.answer s (with_turn book u o brings s) s.exit }

-- the plan of a COMMIT that is accepted
abbrev pub planned_by : List Place → Trail → ℕ → Option Answer → Input → Option Seen → List CommitPlan
planned_by places tr n answer input None = []
planned_by places tr n answer input (Some s) = if commits n answer s input then plan places tr s.me ∷ [] else []

-- the root of the session whose call came
abbrev pub called_root : Trail → ℕ → Input → Option Seen
called_root tr n (inputs.Call session s) = root_at tr n session
called_root tr n _ = None

-- with the plan of a COMMIT
abbrev pub with_plan : List Place → Trail → Turn → Option Answer → Trail
with_plan places tr u answer = record tr { plans = tr.plans ++ planned_by places tr u.node answer u.input (called_root tr u.node u.input) }

-- with the branches that begin
abbrev pub with_begun : Facts → Trail → Turn → Trail
with_begun f tr u = record tr { seen = tr.seen ++ begun_in_turn f tr u }

-- every branch after a turn, once those that begin and the plan stand
abbrev pub with_all : Facts → Trail → Turn → Option TurnOutput → Brought → Trail
with_all f tr u o brings = record tr { moment = tr.moment + 1; seen = map (after_turn f.book tr u o brings) tr.seen; origins = tr.origins ++ origins_of (length f.net.packets + 1) brings.origin u.sent }

-- a turn that came to this
abbrev pub trail_turned : List Place → Facts → Trail → Turn → Option TurnOutput → Trail
trail_turned places f tr u o = with_all f (with_plan places (with_begun f tr u) u (answered_by o)) u o (brought_by f (with_begun f tr u) u o)

-- ---- each happening

-- a stop drops the live branches of its node
abbrev pub stopped_by : ℕ → Seen → Seen
stopped_by n s = if is_live_at n s then record s { exit = Some Dropped } else s

-- one happening more
unfoldable pub trail_after : List Place → Facts → Trail → Happening → Trail
trail_after places f tr (happenings.Turn u) = trail_turned places f tr u (outcome_at places f u)
trail_after places f tr (happenings.Stopped n) = record tr { moment = tr.moment + 1; seen = map (stopped_by n) tr.seen }
trail_after places f tr _ = record tr { moment = tr.moment + 1 }

-- what these happenings tell, oldest first
unfoldable pub trail_of : List Place → List Command → Facts → Trail → List Happening → Trail
trail_of places asked f tr [] = tr
trail_of places asked f tr (h ∷ hs) = trail_of places asked (facts_after places asked f h) (trail_after places f tr h) hs
