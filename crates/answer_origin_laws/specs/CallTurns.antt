-- The turns that pending calls come in: a session's call waits for its answer from the turn that its statement came to, in
-- the course of its command. A CREATE in a transaction is two calls of one command: COMMIT, and itself once that is
-- complete. (SQL Language Reference, COMMIT: the implicit commit before a data definition statement; Database
-- Administrator's Guide, "Distributed Transactions Concepts": the session that waits for its call.)
use Rattle.std.specs.Prelude.{◌≡◌, ◌≢◌, ℕ, ◌+◌, ◌<◌, ◌≤◌, ◌⊎◌, true, false, slice_get, Option, Some, None}
use Rattle.node_rules.specs.Data.{Stmt}
use Rattle.node_rules.specs.Data.inputs
use Rattle.node_rules.specs.Data.stmts
use Rattle.run_rules.specs.Calls.{call_at}
use Rattle.run_rules.specs.Commands.{commits_first}
use Rattle.run_rules.specs.Data.{Turn}
use Rattle.run_rules.specs.Data.commands
use Rattle.run_rules.specs.Data.happenings
use Rattle.run_rules.specs.Each.{facts_upto}
use Rattle.run_rules.specs.Facts.{command_at}
use Rattle.run_rules.specs.Scripts.{IsTheRunOf}
use Rattle.run_rules.specs.Lawful.{History}
use Rattle.run_claims.specs.Places.{past_upto}
use Rattle.run_rules.specs.RunReport.{Call, Past}

-- What a call brings of the text of its command, while this command runs. The COMMIT before a CREATE may be complete only
-- after its command, where HOLD is on, and the CREATE comes then.
pub data BringsText (c : Call) (running : ℕ) : Option Stmt → Type 0 where
  What_is_asked : (text : Option Stmt) → c.statement ≡ text → c.follows ≡ None → running ≡ c.command → BringsText c running text
  A_commit_first : (s : Stmt) → commits_first s ≡ true → c.statement ≡ Some (stmts.Commit None) → c.follows ≡ Some s → running ≡ c.command → BringsText c running (Some s)
  Then_the_create : (s : Stmt) → commits_first s ≡ true → c.statement ≡ Some s → c.follows ≡ None → c.command ≤ running → BringsText c running (Some s)

-- The turn of a call: its statement came to its session, for which the call is pending.
pub record TurnOf (t : History) (moment node session : ℕ) (c : Call) : Type 0 where
  pub turn : Turn
  pub there : slice_get t.trace moment ≡ Some (happenings.Turn turn)
  pub here : turn.node ≡ node
  pub came : turn.input ≡ inputs.Call session c.statement
  pub text : Option Stmt
  pub asked : command_at t.commands c.command ≡ commands.At node session text
  pub brings : BringsText c (facts_upto t moment).command text
  pub pending : call_at (past_upto t moment).run_report node session ≡ Some c

-- A call came in a turn before this many happenings, it has been pending since, and no other call came to its session.
pub record CameBefore (t : History) (bound node session : ℕ) (c : Call) : Type 0 where
  pub moment : ℕ
  pub before : moment < bound
  pub turn : TurnOf t moment node session c
  pub stays : (k : ℕ) → moment ≤ k → k < bound → call_at (past_upto t k).run_report node session ≡ Some c
  pub last : (k : ℕ) → moment < k → k < bound → (u : Turn) → slice_get t.trace k ≡ Some (happenings.Turn u) → u.node ≡ node → (s : Option Stmt) → u.input ≢ inputs.Call session s

-- a call that comes next: its command has just begun, or the COMMIT before it is complete
abbrev pub IsYetToCome : Past → Call → Type 0
IsYetToCome p c = ((p.run_report.acted ≡ false) × (p.facts.command ≡ c.command)) ⊎ (p.run_report.next_call ≡ Some c)

-- In the run of a script each pending call has come, unless it comes next.
abbrev pub PendingCallsCame : Type 0
PendingCallsCame = (t : History) → IsTheRunOf t → (i node session : ℕ) (c : Call) → call_at (past_upto t i).run_report node session ≡ Some c
    → IsYetToCome (past_upto t i) c ⊎ CameBefore t i node session c

-- So in each turn each pending call comes, or has come before.
abbrev pub TurnsFindCallsCome : Type 0
TurnsFindCallsCome = (t : History) → IsTheRunOf t → (i : ℕ) (u : Turn) → slice_get t.trace i ≡ Some (happenings.Turn u) → (node session : ℕ) (c : Call)
    → call_at (past_upto t i).run_report node session ≡ Some c → CameBefore t (i + 1) node session c

-- And what comes as a client's call is a pending call.
abbrev pub WhatComesIsPending : Type 0
WhatComesIsPending = (t : History) → IsTheRunOf t → (i : ℕ) (u : Turn) → slice_get t.trace i ≡ Some (happenings.Turn u) → (session : ℕ) (s : Option Stmt) → u.input ≡ inputs.Call session s
    → (c : Call) × TurnOf t i u.node session c
