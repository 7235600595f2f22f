-- What a turn makes of a live branch of a node, and what a node needs where a statement comes to one.
use Rattle.std.specs.Prelude.{◌≡◌, Bool, false, nat_lt, ℕ, List, ◌<◌, ◌≤◌, ◌^◌, ◌==◌, if◌then◌else◌, [], length, Option, Some, None, IfSome}
use Rattle.dtx_values.specs.Limits.{link_limit, node_limit}
use Rattle.tran_ids.specs.declared.branch.BranchId.{BranchId}
use Rattle.tran_ids.specs.Listed.{item_at}
use Rattle.catalog.specs.Catalog.{is_used}
use Rattle.session_tree.specs.Live.{new_edge, next_edge}
use Rattle.session_tree.specs.Tree.{count}
use Rattle.node_rules.specs.Data.{Answer, Change, Done, Edge, Owned, Stmt, Table}
use Rattle.node_rules.specs.declared.work.Errand.{Errand}
use Rattle.node_rules.specs.declared.work.Errand.TheVariants as errands
use Rattle.node_rules.specs.declared.work.Going.{Going}
use Rattle.node_rules.specs.declared.work.Waits.{Waits}
use Rattle.node_rules.specs.Data.answers
use Rattle.node_rules.specs.declared.work.Waits.TheVariants as waiting
use Rattle.node_rules.specs.NodeState.{NodeState, Branch, TurnDraft, live_id, nothing, work_id}
use Rattle.node_rules.specs.Ids.{decimal}
use Rattle.node_rules.specs.Words.{one}
use Rattle.node_rules.specs.Refusals.{ora}
use Rattle.node_rules.specs.Client.{did, leaves, refuses}
use Rattle.node_rules.specs.Calls.{calls_over, less_room, next_call, with_edge}
use Rattle.node_ready_laws.specs.Rows.{HasRows}
use Rattle.node_state.specs.Changed.{change_item}
use Rattle.node_state.specs.Lives.{heard, with_changes}
use Rattle.node_state.specs.Works.{back_at, change_work, run_noted, work_of}
use Rattle.row_locks.specs.Back.{gone_back}
use Rattle.row_store.specs.Pending.{changes_of}
use Rattle.row_store.specs.Store.{sets_at, without_sets}
use Rattle.stmt_store.specs.declared.written.Written.{Written}
use Rattle.stmt_store.specs.Stores.{written_of}
use Rattle.node_rules.specs.Marks.{keys_of_table, sets_behind}
use Rattle.node_rules.specs.Statement.{StmtOutcome}
use Rattle.read_only_tx.specs.Versions.{Versions, rows_at, is_too_old}
use Rattle.row_locks.specs.Locks.{Lock}
use Rattle.row_store.specs.Own.{view_of}
use Rattle.row_store.specs.Store.{Contents, own_changes, seen_by}
use Rattle.sql_eval.specs.Laws.{AreRowsOf}
use Rattle.stmt_run.specs.Run.{StmtContext}
use Rattle.stmt_run.specs.Stored.{ground_in}
use Rattle.stmt_store.specs.Past.{past_ground}
use Rattle.node_rules.specs.declared.work.Work.{Work}
use Rattle.node_ways.specs.Ways.{has_table}
use Rattle.node_memory.specs.declared.memory.Memory.{Memory}
use Rattle.node_memory.specs.Parts.{kept_in}
use Rattle.node_calls.specs.declared.opened.Waited.{Waited}
use Rattle.node_calls.specs.declared.replied.Replier.{Replier}

-- what a live branch does, and nothing where it is not live
abbrev pub at_live : NodeState → (Branch → TurnDraft) → Option Branch → TurnDraft
at_live k f None = nothing k
at_live k f (Some x) = f x

-- what waits for a new child
abbrev pub waits_for : Going → Waits → Option Waited
waits_for g (waiting.ForReply i) = None
waits_for g (waiting.ForOpened link) = Some (record { link = link; errand = less_room g.errand })

-- what waits for the child of this number, which is the next one
abbrev pub waited_for : ℕ → ℕ → Option Going → Option Waited
waited_for number next None = None
waited_for number next (Some g) = if number == next then waits_for g g.waits else None

-- the branch goes on with what waited for its new child
abbrev pub goes_on : NodeState → Branch → BranchId → ℕ → Waited → TurnDraft
goes_on k x from strength w = calls_over k (with_edge x (new_edge from w.link strength)) (next_edge x.live) w.errand

-- the child that replies, with its number
abbrev pub replier_as : Replier → ℕ × Edge
replier_as r = (r.number, r.edge.now)

-- a transaction that can only be rolled back, after an answer of this code: ORA-02067 where its root is live
abbrev pub refuses_again : NodeState → ℕ → ℕ → Option Branch → TurnDraft
refuses_again k n code None = nothing k
refuses_again k n code (Some x) = refuses k n (ora 2067 (one (decimal code)))

-- a transaction that ends at once, where its root is live; else only the call ends
abbrev pub leaves_by : NodeState → ℕ → Done → Option Branch → TurnDraft
leaves_by k n d None = did k n d
leaves_by k n d (Some x) = leaves k n d x

-- whether an answer tells of changes
abbrev pub did_changes : Answer → Bool
did_changes (answers.Did d n) = nat_lt 0 n
did_changes _ = false

-- a branch, where it is live, has told of so few branches that a Reply can tell them
abbrev pub ReplyFits : Memory → BranchId → Type 0
ReplyFits m b = IfSome (item_at live_id m.lives b) (λ l. count l < 2 ^ 16)

-- each of its edges has a next call number
abbrev pub EdgesHaveNumbers : Memory → BranchId → Type 0
EdgesHaveNumbers m b = (i : ℕ) → next_call (work_of m.works b) i < 2 ^ 32

-- so many children leave room for the one that is waited for
abbrev pub ChildrenLeaveRoom : ℕ → Waits → Type 0
ChildrenLeaveRoom children (waiting.ForOpened link) = children < link_limit
ChildrenLeaveRoom children (waiting.ForReply i) = Unit {0}

-- where a statement is under way
abbrev pub HasRoomWhile : ℕ → Option Going → Type 0
HasRoomWhile children None = Unit {0}
HasRoomWhile children (Some g) = ChildrenLeaveRoom children g.waits

-- a branch, where it is live, has room for the child that it waits for
abbrev pub BranchHasRoom : Memory → BranchId → Type 0
BranchHasRoom m b = IfSome (item_at live_id m.lives b) (λ l. HasRoomWhile (length l.edges) (work_of m.works b).going)

-- with what the Reply of any child tells it has told of few branches still
abbrev pub HasFewWith : Memory → BranchId → Option ℕ → ℕ → Type 0
HasFewWith m b weight told = (i : ℕ) → IfSome (item_at live_id m.lives b) (λ l. count (heard i weight told l) < 2 ^ 16)

-- What a node needs where a statement comes to a branch of it.
pub record TakesStatement (m : Memory) (b : BranchId) (s : Stmt) : Type 0 where
  pub few : ReplyFits m b
  pub numbers : EdgesHaveNumbers m b
  pub nodes : length m.place.names ≤ node_limit
  pub nameless : has_table s ≡ false → is_used m.catalog [] ≡ false  -- a form without a table names the empty name
  pub rows : HasRows (kept_in m)

-- the step that an errand goes back to, where a child of the branch has done so
abbrev pub step_after : Answer → Errand → Option ℕ
step_after a (errands.Statement s given) = None
step_after (answers.Refused r) (errands.GoBack step) = None
step_after _ (errands.GoBack step) = Some step

-- the same of what is under way
abbrev pub back_step : Answer → Option Going → Option ℕ
back_step a None = None
back_step a (Some g) = step_after a g.errand

-- the calls of live branches after a run that wrote this
abbrev pub with_written : List Work → BranchId → ℕ → Table → Option Written → List Work
with_written ws b step t None = ws
with_written ws b step t (Some w) = change_work (run_noted step w.sets (keys_of_table t.name w.keys)) ws b

-- what a branch meets at a table of the node's store, where it reads the rows at an SCN
abbrev pub ground_past : Contents → Versions → List Lock → BranchId → Table → ℕ → StmtContext
ground_past s vs locks b t scn = past_ground (view_of (rows_at s.rows vs scn) (own_changes s b) t.name) (is_too_old vs scn) locks b

-- or the newest rows
abbrev pub ground_at : Contents → Versions → List Lock → BranchId → Table → Option ℕ → StmtContext
ground_at s vs locks b t None = ground_in s locks b t
ground_at s vs locks b t (Some scn) = ground_past s vs locks b t scn

-- a branch that reads the newest rows sees rows of the table
abbrev pub SeesRows : Contents → BranchId → Table → Option ℕ → Type 0
SeesRows s b t None = AreRowsOf t (seen_by s b t.name)
SeesRows s b t (Some scn) = Unit {0}

-- and after a run that came to this
abbrev pub works_after_run : List Work → BranchId → ℕ → Table → StmtOutcome → List Work
works_after_run ws b step t r = with_written ws b step t (written_of r)

-- what live branches have changed, once a branch has undone what it did in later steps
abbrev pub owns_undone : NodeState → BranchId → ℕ → List Owned
owns_undone k b step = without_sets k.owns b (sets_behind (work_of k.works b).marks step)

-- what is left to the branch
abbrev pub changes_undone : NodeState → BranchId → ℕ → List Change
changes_undone k b step = changes_of (sets_at (owns_undone k b step) b)

-- the calls of live branches, once a branch has dropped its later notes
abbrev pub works_undone : NodeState → BranchId → ℕ → List Work
works_undone k b step = change_item work_id (back_at step) k.works b

-- the node, once a branch has undone what it did in later steps
abbrev pub undone_in : NodeState → BranchId → ℕ → NodeState
undone_in k b step = record k {
  owns = owns_undone k b step;
  works = works_undone k b step;
  locks = gone_back k.locks b (work_of (works_undone k b step) b).marks.notes (changes_undone k b step);
  lives = change_item live_id (with_changes (nat_lt 0 (length (changes_undone k b step)))) k.lives b;
}
