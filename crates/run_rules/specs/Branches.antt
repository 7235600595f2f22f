-- What the happenings so far tell of branches: how each began, how it stopped being live, its children, its own changes
-- and the keys that it holds, the runs that answers came from, and the plans of the COMMITs that were accepted. It is read
-- off the happenings: off their inputs, records and messages, and what the rules answer to the statement of a turn.
-- (Database Administrator's Guide, "Distributed Transactions Concepts".)
-- How a branch stopped being live, once: its Sealed or its Decided record stands; it answered ReadOnly; or it rolled back, its
-- node stopped, or it was a root without a site.
pub use Rattle.agreement.specs.Events.{Exit, Sealed, Decided, Quiet, Dropped}
use Rattle.std.specs.Prelude.{ℕ, ◌==◌, ◌&&◌, Bool, false, if◌then◌else◌, List, [], ◌∷◌, ◌++◌, filter, find, flat_map, fold, is_none, Option, Some, None}
use Rattle.std.specs.List.{list_any, list_all}
use Rattle.node_rules.specs.Data.{Value, Change, Table, Stmt, BranchId, KeptRow, Savepoint}
use Rattle.node_rules.specs.Words.{same, item_at}
use Rattle.row_locks.specs.Locks.{Lock, keys_held, without_reads}
use Rattle.stmt_run.specs.Run.{take_keys}
use Rattle.redo_record.specs.Durable.{durable}
use Rattle.node_rules.specs.NodeState.{kept_row_id}
use Rattle.run_rules.specs.Facts.{Facts, records_at}

-- A run of a statement at its table.
pub record Run : Type 0 where
  pub moment : ℕ  -- so many happenings came before its turn
  pub branch : BranchId
  pub statement : Stmt
  pub table : Table

-- What a run that was accepted left to its branch: its changes, and the keys that it wrote.
pub record Ran : Type 0 where
  pub step : ℕ  -- at a root the number of its client's calls so far, elsewhere that of the call
  pub changes : List Change
  pub table : List ℕ
  pub keys : List Value
  pub writes : Bool  -- it changes rows, and does not lock them alone

-- One branch, since it began.
pub record Seen : Type 0 where
  pub me : BranchId
  pub root : BranchId
  pub parent : Option BranchId
  pub exit : Option Exit  -- none while it is live
  pub strength : Option ℕ  -- the commit point strength that was set at its node when it began, where one was
  pub read_at : Option ℕ  -- the SCN at which a READ ONLY transaction reads
  pub taken : ℕ  -- the greatest call number that it took; at a root the number of its client's calls
  pub asked : Option Stmt  -- the statement of that call, or of its client's last call
  pub answer : Option Run  -- the run that its last answer came from
  pub children : List BranchId  -- those that it sent Execs to, in order of the first
  pub collects : Bool  -- its COMMIT was accepted, or Prepare came
  pub voted : List BranchId  -- the children whose first answer to Prepare came
  pub acks : List BranchId  -- those whose Ack came
  pub runs : List Ran  -- those that were accepted, without those that it went back over
  pub savepoints : List Savepoint  -- those of its transaction, at a root

-- One branch of a session tree, as it stood when the COMMIT was accepted.
pub record PlannedBranch : Type 0 where
  pub me : BranchId
  pub parent : Option BranchId
  pub children : List BranchId
  pub changes : List Change
  pub weight : Option ℕ
  pub toward : Option BranchId  -- its neighbour on the way to the site, and nobody at the site

-- The session tree of a COMMIT, when it was accepted.
pub record CommitPlan : Type 0 where
  pub root : BranchId
  pub site : Option BranchId
  pub tree : List PlannedBranch  -- the root first

-- A Reply and the run that its answer came from.
pub record Origin : Type 0 where
  pub message : ℕ
  pub run : Run

-- What the happenings so far tell.
pub record Trail : Type 0 where
  pub moment : ℕ  -- so many happenings
  pub seen : List Seen  -- in the order in which they began
  pub origins : List Origin
  pub plans : List CommitPlan

-- before anything happened
abbrev pub no_trail : Trail
no_trail = record { moment = 0; seen = []; origins = []; plans = [] }

-- a branch that has just begun
abbrev pub newly_seen : BranchId → BranchId → Option BranchId → Option ℕ → Option ℕ → Seen
newly_seen me root parent strength read_at = record {
  me = me;
  root = root;
  parent = parent;
  exit = None;
  strength = strength;
  read_at = read_at;
  taken = 0;
  asked = None;
  answer = None;
  children = [];
  collects = false;
  voted = [];
  acks = [];
  runs = [];
  savepoints = [];
}

-- a branch by its id
abbrev pub seen_id : Seen → BranchId
seen_id s = s.me

-- what is seen of a branch that began
abbrev pub seen_at : Trail → BranchId → Option Seen
seen_at tr b = item_at seen_id tr.seen b

-- whether a branch has not stopped being live
abbrev pub is_live : Seen → Bool
is_live s = is_none s.exit

-- the exit of a branch that began
abbrev pub exit_of : Option Seen → Option Exit
exit_of None = None
exit_of (Some s) = s.exit

-- how a branch stopped being live, if it has
abbrev pub exit_at : Trail → BranchId → Option Exit
exit_at tr b = exit_of (seen_at tr b)

-- what a branch has changed, in order
abbrev pub own_changes : Seen → List Change
own_changes s = flat_map (λ r. r.changes) s.runs

-- with the keys that a run wrote
abbrev pub take_run : BranchId → List Lock → Ran → List Lock
take_run me locks r = take_keys locks me r.table r.writes r.keys

-- a key that FOR UPDATE alone took is held until the collect begins
abbrev pub held_on : Bool → BranchId → List Lock → List Lock
held_on collects b held = if collects then without_reads held b else held

-- the keys that a branch holds
abbrev pub held_keys : Seen → List Lock
held_keys s = held_on s.collects s.me (fold (take_run s.me) [] s.runs)

-- the changes of a branch that began
abbrev pub own_of : Option Seen → List Change
own_of None = []
own_of (Some s) = own_changes s

-- what a branch has changed
abbrev pub own_at : Trail → BranchId → List Change
own_at tr b = own_of (seen_at tr b)

-- the commit point strength that was set when a branch began
abbrev pub strength_set : Option Seen → Option ℕ
strength_set None = None
strength_set (Some s) = s.strength

-- the SCN at which a branch that began reads
abbrev pub read_at_of : Option Seen → Option ℕ
read_at_of None = None
read_at_of (Some s) = s.read_at

-- the SCN at which a branch reads, where its transaction is READ ONLY
abbrev pub read_at_at : Trail → BranchId → Option ℕ
read_at_at tr b = read_at_of (seen_at tr b)

-- the children of a branch that began
abbrev pub children_of : Option Seen → List BranchId
children_of None = []
children_of (Some s) = s.children

-- the children of a branch
abbrev pub children_at : Trail → BranchId → List BranchId
children_at tr b = children_of (seen_at tr b)

-- whether a branch is among these
abbrev pub is_among : BranchId → List BranchId → Bool
is_among b bs = list_any (λ c. same c b) bs

-- with a branch, once
abbrev pub with_once : List BranchId → BranchId → List BranchId
with_once bs b = if is_among b bs then bs else bs ++ b ∷ []

-- whether all children have answered Prepare
abbrev pub all_voted : Seen → Bool
all_voted s = list_all (λ c. is_among c s.voted) s.children

-- whether a branch is live at this node
abbrev pub is_live_at : ℕ → Seen → Bool
is_live_at n s = (s.me.node == n) && is_live s

-- the keys of a table that live branches of a node hold
abbrev pub held_at : Trail → ℕ → List ℕ → List Value
held_at tr n table = flat_map (λ s. keys_held (held_keys s) table) (filter (is_live_at n) tr.seen)

-- the live root of a client session
abbrev pub is_root_of : ℕ → ℕ → Seen → Bool
is_root_of n session s = is_live_at n s && (is_none s.parent && (s.me.session == session))

-- the transaction of a session, where it has one
abbrev pub root_at : Trail → ℕ → ℕ → Option Seen
root_at tr n session = find (is_root_of n session) tr.seen

-- whether a plan is of this root
abbrev pub is_plan_of : BranchId → CommitPlan → Bool
is_plan_of root p = same p.root root

-- the plan of a transaction whose COMMIT was accepted
abbrev pub plan_at : Trail → BranchId → Option CommitPlan
plan_at tr root = find (is_plan_of root) tr.plans

-- the run that a Reply came from
abbrev pub origin_of : Option Origin → Option Run
origin_of None = None
origin_of (Some o) = Some o.run

-- the same by the number of the message
abbrev pub origin_at : Trail → ℕ → Option Run
origin_at tr k = origin_of (find (λ o. o.message == k) tr.origins)

-- What a branch is at a moment.
pub data Life : Type 0 where
  Unborn : Life  -- it has not begun
  Live : Life  -- it takes part in its transaction
  Kept : Life  -- its node's records keep a row of it
  Gone : Life  -- it is neither

-- by the records of its node
abbrev pub life_kept : Option KeptRow → Life
life_kept None = Gone
life_kept (Some row) = Kept

-- the same of a branch that began, or did not
abbrev pub life_of : Facts → BranchId → Option Seen → Life
life_of f b None = Unborn
life_of f b (Some s) = if is_live s then Live else life_kept (item_at kept_row_id (durable (records_at f b.node)).kept b)

-- what a branch is now
unfoldable pub life_at : Facts → Trail → BranchId → Life
life_at f tr b = life_of f b (seen_at tr b)
