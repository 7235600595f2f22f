-- What the rules make of the calls of a live branch.
use Rattle.std.specs.Prelude.{ℕ, List, [], ◌∷◌, ◌++◌, Option, None, Some}
use Rattle.savepoints.specs.declared.marks.RowKey.{RowKey}
use Rattle.savepoints.specs.declared.marks.Note.{Note}
use Rattle.savepoints.specs.Marks.{with_note, with_savepoint, back_to}
use Rattle.tran_ids.specs.declared.branch.BranchId.{BranchId}
use Rattle.tran_ids.specs.Listed.{item_at, put_item}
use Rattle.sql_statement.specs.declared.statement.Stmt.{Stmt}
use Rattle.link_session.specs.declared.reply.ReplyFields.{ReplyFields}
use Rattle.link_session.specs.Calls.{taken}
use Rattle.node_rules.specs.declared.work.Errand.{Errand}
use Rattle.node_rules.specs.declared.work.Errand.TheVariants as errands
use Rattle.node_rules.specs.declared.work.Going.{Going}
use Rattle.node_rules.specs.declared.work.Waits.{Waits}
use Rattle.node_rules.specs.declared.work.Waits.TheVariants as waiting
use Rattle.node_rules.specs.declared.work.Work.{Work}
use Rattle.node_rules.specs.NodeState.{work_id, work_or}
use Rattle.node_rules.specs.Calls.{calls_with}
use Rattle.node_rules.specs.Marks.{call_note}

-- the calls of any branch are kept
abbrev pub AnyWork : Work → Type 0
AnyWork w = Unit {0}

-- the calls of a branch, and none where none came and it made none
abbrev pub work_of : List Work → BranchId → Work
work_of ws b = work_or b (item_at work_id ws b)

-- with the calls of a branch changed
abbrev pub change_work : (Work → Work) → List Work → BranchId → List Work
change_work f ws b = put_item work_id ws (f (work_of ws b))

-- a call is taken
abbrev pub with_call_taken : ℕ → Work → Work
with_call_taken call w = record w { came = taken call }

-- an errand that is under way
abbrev pub going_on : Errand → Waits → Going
going_on e waits = record { errand = e; waits = waits }

-- one more call of the child of a number, which is noted at a step
abbrev pub call_noted : ℕ → ℕ → Work → Work
call_noted i step w = record w { calls = calls_with w i; marks = with_note w.marks (call_note step (calls_with w i)) }

-- an errand goes on to the child of a number, under the next call number of its edge
abbrev pub called_over : ℕ → Errand → ℕ → Work → Work
called_over i e step w = record (call_noted i step w) { going = Some (going_on e (waiting.ForReply i)) }

-- a statement waits for a child to be opened over a link
abbrev pub waits_for_child : List ℕ → Stmt → ℕ → Work → Work
waits_for_child link s room w = record w { going = Some (going_on (errands.Statement s room) (waiting.ForOpened link)) }

-- what is noted of a run: its step, its sets of changes, the keys that it wrote, and the last call of each edge
abbrev pub note_of_run : ℕ → ℕ → List RowKey → List ℕ → Note
note_of_run step sets keys calls = record { step = step; sets = sets; keys = keys; calls = calls }

-- a run is noted
abbrev pub run_noted : ℕ → ℕ → List RowKey → Work → Work
run_noted step sets keys w = record w { marks = with_note w.marks (note_of_run step sets keys w.calls) }

-- a savepoint is set at a step
abbrev pub with_savepoint_at : List ℕ → ℕ → Work → Work
with_savepoint_at name step w = record w { marks = with_savepoint w.marks name step }

-- a branch is back at a step: what it noted later is dropped
abbrev pub back_at : ℕ → Work → Work
back_at step w = record w { marks = back_to w.marks step }

-- one more child, to which no call was made
abbrev pub with_child : Work → Work
with_child w = record w { calls = w.calls ++ 0 ∷ [] }

-- the answer that is kept: a new one, or else the one before
abbrev pub reply_after : Option ReplyFields → Option ReplyFields → Option ReplyFields
reply_after before None = before
reply_after before (Some r) = Some r

-- the statement is answered; the answer is kept where it went to a parent
abbrev pub answered_with : Option ReplyFields → Work → Work
answered_with reply w = record w { going = None; came = record w.came { reply = reply_after w.came.reply reply } }

-- the branch waits for nothing
abbrev pub given_up : Work → Work
given_up w = record w { going = None }
