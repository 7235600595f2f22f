-- Savepoints at a node: what a branch notes of what it runs and calls, and how it goes back to a step. (SQL Language
-- Reference: SAVEPOINT, ROLLBACK.)
pub use Rattle.savepoints.specs.Marks.{no_marks, with_note, with_savepoint, savepoint_at, back_to, sets_behind, calls_until, wrote}
use Rattle.std.specs.Prelude.{ℕ, ◌+◌, ◌-◌, ◌==◌, ◌||◌, Bool, if◌then◌else◌, List, [], ◌∷◌, map, drop, length, nat_lt, is_none, unwrap_or, Option, Some, None}
use Rattle.std.specs.List.{list_any}
use Rattle.node_rules.specs.Data.{Value, Change, Table, RowKey, Note, Marks, Work, Session}
use Rattle.node_rules.specs.Data.{Owned}
use Rattle.row_store.specs.Store.{without_sets}
use Rattle.row_locks.specs.Locks.{Lock, locks_back}
use Rattle.node_rules.specs.Words.{numbered}
use Rattle.node_rules.specs.Rows.{changes_of, is_change_of}
use Rattle.node_rules.specs.Sessions.{session_at}
use Rattle.node_rules.specs.Statement.{StmtOutcome, Refuses, Reads, Writes}
use Rattle.node_rules.specs.NodeState.{NodeState, Branch, sets_at}

-- ---- notes

-- the step of what a branch does now: at a root the number of its client's calls, elsewhere that of the last call that came
abbrev pub step_of : List Session → Branch → ℕ
step_of ss x = if is_none x.live.parent then (session_at ss x.live.me.session).calls else x.work.came.last_call

-- keys of one table
abbrev pub keys_of_table : List ℕ → List Value → List RowKey
keys_of_table table keys = map (λ key. record { table = table; key = key }) keys

-- the note of a run that was accepted, at a step
abbrev pub run_note : ℕ → Table → ℕ → List Value → List ℕ → Note
run_note step t sets keys calls = record { step = step; sets = sets; keys = keys_of_table t.name keys; calls = calls }

-- the marks after a run; one that was refused is not noted
abbrev pub marks_after : Work → ℕ → Table → StmtOutcome → Marks
marks_after w step t (Refuses r) = w.marks
marks_after w step t (Reads rows keys) = with_note w.marks (run_note step t 0 keys w.calls)
marks_after w step t (Writes d cs keys undo) = with_note w.marks (run_note step t 1 keys w.calls)

-- the note of a call to a child, with the call numbers from then on
abbrev pub call_note : ℕ → List ℕ → Note
call_note step calls = record { step = step; sets = 0; keys = []; calls = calls }

-- ---- going back to a step

-- what live branches have changed, once a branch has gone back: the sets of its later steps are taken back
abbrev pub owns_back : NodeState → Branch → ℕ → List Owned
owns_back k x step = without_sets k.owns x.live.me (sets_behind x.work.marks step)

-- the changes that are left to the branch
abbrev pub changes_left : NodeState → Branch → ℕ → List Change
changes_left k x step = changes_of (sets_at (owns_back k x step) x.live.me)

-- whether a remaining statement wrote the key of a lock
abbrev pub is_still_written : Marks → ℕ → Lock → Bool
is_still_written m step l = wrote (back_to m step) l.table l.key

-- whether one of these changes is at the key of a lock; else FOR UPDATE alone holds it
abbrev pub is_changed_in : List Change → Lock → Bool
is_changed_in cs l = list_any (is_change_of l.table l.key) cs

-- whether a lock stays: a remaining statement wrote its key, or changed the row at it
abbrev pub stays_held : NodeState → Branch → ℕ → Lock → Bool
stays_held k x step l = is_still_written x.work.marks step l || is_changed_in (changes_left k x step) l

-- the node once a branch has gone back: keys that no remaining statement wrote are free
abbrev pub node_back : NodeState → Branch → ℕ → NodeState
node_back k x step = record k {
  owns = owns_back k x step;
  locks = locks_back x.live.me (stays_held k x step) (is_changed_in (changes_left k x step)) k.locks;
}

-- the branch itself
abbrev pub branch_back : NodeState → Branch → ℕ → Branch
branch_back k x step = record {
  live = record x.live { changed = nat_lt 0 (length (changes_left k x step)) };
  work = record x.work { marks = back_to x.work.marks step };
}

-- ---- its children

-- the last call of an edge up to a step, 0 where there was none
abbrev pub kept_call : Marks → ℕ → ℕ → ℕ
kept_call m step i = unwrap_or (numbered (calls_until m step) i) 0

-- the first edge from this number on, among those with these last calls, whose calls went on since the step
abbrev pub went_on : Marks → ℕ → ℕ → List ℕ → Option ℕ
went_on m step i [] = None
went_on m step i (call ∷ calls) = if call == kept_call m step i then went_on m step (i + 1) calls else Some i

-- the child from this number on that has to go back next
abbrev pub next_back : Work → ℕ → ℕ → Option ℕ
next_back w step i = went_on w.marks step i (drop (i - 1) w.calls)
