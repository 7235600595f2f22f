-- Which turns run a statement at its table, for which branch, what the run means over the rows that the book leaves, what its
-- branch has changed and holds afterwards; and which turns go back to a savepoint. (SQL Language Reference.)
use Rattle.std.specs.Prelude.{ℕ, ◌&&◌, Bool, true, false, if◌then◌else◌, List, [], ◌∷◌, ◌++◌, flat_map, map, filter, find, not, nat_lt, is_none, option_map, Option, Some, None}
use Rattle.node_rules.specs.Data.{Value, Change, Table, TableRef, Stmt, Answer, BranchId, Kind, Msg, Input, Keyed, Savepoint}
use Rattle.node_rules.specs.Data.answers
use Rattle.node_rules.specs.Data.tasks
use Rattle.node_rules.specs.Data.kinds
use Rattle.node_rules.specs.Data.stmts
use Rattle.node_rules.specs.Data.inputs
use Rattle.node_rules.specs.Words.{same_text}
use Rattle.node_rules.specs.Rows.{apply}
use Rattle.node_rules.specs.Meaning.{Meant, Changes, meant, written}
use Rattle.node_rules.specs.Names.{table_of, ref_of}
use Rattle.node_rules.specs.NodeState.{TurnOutput}
use Rattle.redo_record.specs.Durable.{durable}
use Rattle.run_rules.specs.Data.{Finished, Turn, Entry}
use Rattle.run_rules.specs.Book.{rows_read, in_doubt, changes_of}
use Rattle.run_rules.specs.Facts.{Facts, records_at}
use Rattle.run_rules.specs.Branches.{Run, Ran, Seen, Trail, seen_at, is_live, root_at, held_at}

-- ---- which turns run a statement

-- whether a statement has a table: INSERT, UPDATE, DELETE, SELECT
abbrev pub is_of_rows : Stmt → Bool
is_of_rows (stmts.Insert table columns given) = true
is_of_rows (stmts.Update table sets cs) = true
is_of_rows (stmts.Delete table cs) = true
is_of_rows (stmts.Select list table cs for_update) = true
is_of_rows _ = false

-- whether a statement begins a transaction in a session that has none
abbrev pub begins_transaction : Stmt → Bool
begins_transaction stmts.SetReadOnly = true
begins_transaction (stmts.Savepoint name) = true
begins_transaction s = is_of_rows s

-- whether a statement counts as a call of its transaction
abbrev pub is_counted : Stmt → Bool
is_counted (stmts.Savepoint name) = true
is_counted (stmts.RollbackTo name) = true
is_counted s = is_of_rows s

-- A statement that came to a live branch.
pub record Asking : Type 0 where
  pub branch : Seen
  pub statement : Stmt

-- a client's call at the root of its session
abbrev pub asks_root : Stmt → Option Seen → Option Asking
asks_root s None = None
asks_root s (Some b) = if is_of_rows s then Some (record { branch = b; statement = s }) else None

-- an Exec whose number its branch has not taken yet
abbrev pub asks_branch : ℕ → Stmt → Option Seen → Option Asking
asks_branch call s None = None
asks_branch call s (Some b) = if is_live b && nat_lt b.taken call then Some (record { branch = b; statement = s }) else None

-- only an Exec that runs one brings a statement
abbrev pub asks_by : Trail → BranchId → Kind → Option Asking
asks_by tr to (kinds.Exec call (tasks.Run given advice s)) = asks_branch call s (seen_at tr to)
asks_by tr to _ = None

-- the statement that an input brings to a branch of this node
abbrev pub asks : Trail → ℕ → Input → Option Asking
asks tr n (inputs.Call session (Some s)) = asks_root s (root_at tr n session)
asks tr n (inputs.Message m) = asks_by tr m.to m.kind
asks tr n _ = None

-- the bare name of a table
abbrev pub bare_name : TableRef → Option (List ℕ)
bare_name ref = if is_none ref.link then Some ref.name else None

-- the table of a bare name, by the records of the node
abbrev pub table_by : Facts → ℕ → Option (List ℕ) → Option Table
table_by f n None = None
table_by f n (Some name) = table_of (durable (records_at f n)) name

-- a run, where the name is a table
abbrev pub run_at_table : ℕ → Asking → Option Table → Option Run
run_at_table moment a None = None
run_at_table moment a (Some t) = Some (record { moment = moment; branch = a.branch.me; statement = a.statement; table = t })

-- a run, where a statement came
abbrev pub run_by : Facts → Trail → ℕ → Option Asking → Option Run
run_by f tr n None = None
run_by f tr n (Some a) = run_at_table tr.moment a (table_by f n (bare_name (ref_of a.statement)))

-- the run of a statement in a turn, where it is one; a cut turn runs none
unfoldable pub run_in : Facts → Trail → Turn → Option Run
run_in f tr u = if u.cut then None else run_by f tr u.node (asks tr u.node u.input)

-- ---- how it was answered

-- the first answer to a client
abbrev pub ended_answer : List Finished → Option Answer
ended_answer [] = None
ended_answer (x ∷ xs) = Some x.answer

-- the answer in a Reply, or else this one
abbrev pub reply_or : Kind → Option Answer → Option Answer
reply_or (kinds.Reply call weight count a) other = Some a
reply_or _ other = other

-- the first answer to a parent
abbrev pub replied_answer : List Msg → Option Answer
replied_answer [] = None
replied_answer (m ∷ ms) = reply_or m.kind (replied_answer ms)

-- this answer, or else that
abbrev pub answer_or : Option Answer → Option Answer → Option Answer
answer_or None other = other
answer_or (Some a) other = Some a

-- what a turn answers to the statement that came to its branch
abbrev pub answered_by : Option TurnOutput → Option Answer
answered_by None = None
answered_by (Some o) = answer_or (ended_answer o.ended) (replied_answer o.sent)

-- whether an answer is there and no refusal
abbrev pub is_accepted : Option Answer → Bool
is_accepted None = false
is_accepted (Some (answers.Refused r)) = false
is_accepted (Some _) = true

-- whether a call was refused by its answer; one that is still pending has none
abbrev pub is_refused : Option Answer → Bool
is_refused None = false
is_refused (Some a) = not (is_accepted (Some a))

-- ---- which turns go back to a savepoint

-- A branch that goes back, and the step that it goes back to.
pub record GoneBack : Type 0 where
  pub branch : BranchId
  pub step : ℕ

-- to a step, where there is one
abbrev pub back_of : BranchId → Option ℕ → Option GoneBack
back_of b step = option_map (λ k. record { branch = b; step = k }) step

-- a BACK whose number its branch has not taken yet
abbrev pub back_branch : ℕ → ℕ → Option Seen → Option GoneBack
back_branch call keep None = None
back_branch call keep (Some s) = if is_live s && nat_lt s.taken call then back_of s.me (Some keep) else None

-- the step of a savepoint
abbrev pub step_of_savepoint : List ℕ → List Savepoint → Option ℕ
step_of_savepoint name ss = option_map (λ s. s.step) (find (λ s. same_text s.name name) ss)

-- ROLLBACK TO at the root of its session
abbrev pub back_root : List ℕ → Option Seen → Option GoneBack
back_root name None = None
back_root name (Some s) = back_of s.me (step_of_savepoint name s.savepoints)

-- only BACK brings one to a branch
abbrev pub back_by : Trail → BranchId → Kind → Option GoneBack
back_by tr to (kinds.Exec call (tasks.GoBack keep)) = back_branch call keep (seen_at tr to)
back_by tr to _ = None

-- the branch that an input with this answer takes back: a ROLLBACK TO that is not refused, or BACK
abbrev pub goes_back : Trail → ℕ → Option Answer → Input → Option GoneBack
goes_back tr n answer (inputs.Call session (Some (stmts.RollbackTo name))) = if is_refused answer then None else back_root name (root_at tr n session)
goes_back tr n answer (inputs.Message m) = back_by tr m.to m.kind
goes_back tr n answer _ = None

-- ---- what it means

-- the view of a branch: the rows that the book leaves at its node, at its SCN where its transaction is READ ONLY, with its own
-- changes
unfoldable pub view_by : List Entry → BranchId → Option ℕ → List Change → List ℕ → List Keyed
view_by book b read_at own table = apply table (rows_read book b.node table read_at) own

-- what a run means for a branch that reads at this SCN, with these own changes
abbrev pub meaning : List Entry → Option ℕ → List Change → Run → Meant
meaning book read_at own r = meant r.statement r.table (view_by book r.branch read_at own r.table.name)

-- the changes in a meaning
abbrev pub changes_in : Meant → List Change
changes_in (Changes d n cs) = cs
changes_in _ = []

-- whether a statement changes rows
abbrev pub changes_rows : Stmt → Bool
changes_rows (stmts.Select list table cs for_update) = false
changes_rows _ = true

-- what a run that was accepted leaves to its branch: what it changed, and the keys that the statement writes
abbrev pub ran_by : List Entry → ℕ → Option ℕ → List Change → Run → Ran
ran_by book step read_at own r = record {
  step = step;
  changes = changes_in (meaning book read_at own r);
  table = r.table.name;
  keys = written r.statement r.table (view_by book r.branch read_at own r.table.name);
  writes = changes_rows r.statement;
}

-- the keys of a table that branches in doubt have changed
abbrev pub keys_in_doubt : List Entry → ℕ → List ℕ → List Value
keys_in_doubt book n table = flat_map (λ b. map (λ c. c.key) (filter (λ c. same_text c.table table) (changes_of book b))) (in_doubt book n)

-- the keys of a table that any branch holds
abbrev pub locked_at : List Entry → Trail → ℕ → List ℕ → List Value
locked_at book tr n table = held_at tr n table ++ keys_in_doubt book n table
