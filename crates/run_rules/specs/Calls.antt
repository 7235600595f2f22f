-- The pending calls: how each ends, and when one is waiting.
use Rattle.std.specs.Prelude.{ℕ, ◌==◌, ◌&&◌, not, Bool, true, false, if◌then◌else◌, List, [], ◌∷◌, map, filter, find, is_none, Option, Some, None}
use Rattle.node_rules.specs.Data.{Stmt, Answer, Input, Place}
use Rattle.node_rules.specs.Data.answers
use Rattle.node_rules.specs.Data.dones
use Rattle.node_rules.specs.Data.inputs
use Rattle.node_rules.specs.Words.{one}
use Rattle.run_rules.specs.Data.{Finished}
use Rattle.run_rules.specs.Data.notices
use Rattle.run_rules.specs.Data.said
use Rattle.run_rules.specs.Lines.{call_line, is_down, says_node, with_own}
use Rattle.run_rules.specs.RunReport.{Call, RunReport}

-- whether a call is of this session
abbrev pub is_call_at : ℕ → ℕ → Call → Bool
is_call_at node session c = (c.node == node) && (c.session == session)

-- the pending call of a session
abbrev pub call_at : RunReport → ℕ → ℕ → Option Call
call_at t node session = find (is_call_at node session) t.calls

-- with no call pending at a session
abbrev pub without_call : RunReport → ℕ → ℕ → RunReport
without_call t node session = record t { calls = filter (λ c. not (is_call_at node session c)) t.calls }

-- the call of the same command, changed
abbrev pub change_call : Call → Call → Call
change_call new old = if old.command == new.command then new else old

-- Commit complete.
abbrev pub is_complete : Answer → Bool
is_complete (answers.Did dones.Committed n) = true
is_complete _ = false

-- the statement of a CREATE, once its COMMIT is complete
abbrev pub second_of : Call → Stmt → Call
second_of c s = record c { statement = Some s; follows = None }

-- the statement of a CREATE is the next call
abbrev pub call_follows : RunReport → Call → RunReport
call_follows t c = record t { calls = map (change_call c) t.calls; next_call = Some c }

-- a call is pending no more, and is answered
abbrev pub call_ends : ℕ → RunReport → Call → Finished → RunReport
call_ends running t c f = call_line running (without_call t c.node c.session) c.command (says_node f)

-- where the COMMIT of a CREATE is complete its statement follows, and nothing is said
abbrev pub ends_or_follows : ℕ → RunReport → Call → Finished → Option Stmt → RunReport
ends_or_follows running t c f None = call_ends running t c f
ends_or_follows running t c f (Some s) = if is_complete f.answer then call_follows t (second_of c s) else call_ends running t c f

-- the end of a pending call
abbrev pub finished_call : ℕ → RunReport → Finished → Option Call → RunReport
finished_call running t f None = t
finished_call running t f (Some c) = ends_or_follows running t c f c.follows

-- these calls end
abbrev pub finished : ℕ → RunReport → ℕ → List Finished → RunReport
finished running t node [] = t
finished running t node (f ∷ fs) = finished running (finished_call running t f (call_at t node f.session)) node fs

-- a stopped node ends its calls
abbrev pub stopped_calls : List Place → ℕ → RunReport → ℕ → List Call → RunReport
stopped_calls places running t n [] = t
stopped_calls places running t n (c ∷ cs) =
    if c.node == n then stopped_calls places running (call_line running (without_call t c.node c.session) c.command (is_down places n)) n cs else stopped_calls places running t n cs

-- with HOLD on a call that its own turn does not end is waiting
abbrev pub waits : RunReport → RunReport
waits t = if t.hold && is_none t.next_call then with_own t (one (said.World notices.Waiting)) else t

-- a call of the command that runs, where it is still pending after its turn
abbrev pub waits_if_pending : ℕ → RunReport → Option Call → RunReport
waits_if_pending running t None = t
waits_if_pending running t (Some c) = if c.command == running then waits t else t

-- what is said after a turn
abbrev pub after_input : ℕ → RunReport → ℕ → Input → RunReport
after_input running t node (inputs.Call session statement) = waits_if_pending running t (call_at t node session)
after_input running t node _ = t
