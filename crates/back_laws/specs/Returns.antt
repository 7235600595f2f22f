-- What ROLLBACK TO leaves of a session tree, as an administrator reads it: once it is complete each live branch of the tree has
-- changed, and holds, what it had changed and held at the SAVEPOINT, and a branch that began since has neither. (SQL Language
-- Reference: SAVEPOINT, ROLLBACK. That a savepoint is one of the whole session tree is dtx's own.)
use Rattle.std.specs.Prelude.{◌≡◌, ℕ, ◌+◌, ◌<◌, true, false, List, [], slice_get, Option, Some, None}
use Rattle.row_locks.specs.Locks.{Lock}
use Rattle.node_rules.specs.Data.{BranchId}
use Rattle.node_rules.specs.Data.answers
use Rattle.node_rules.specs.Data.dones
use Rattle.node_rules.specs.Data.inputs
use Rattle.node_rules.specs.Data.stmts
use Rattle.run_rules.specs.Branches.{Seen, seen_at, root_at, own_of, own_changes, held_keys, is_among}
use Rattle.run_rules.specs.Calls.{call_at}
use Rattle.run_rules.specs.Data.{Turn}
use Rattle.run_rules.specs.Data.commands
use Rattle.run_rules.specs.Data.happenings
use Rattle.run_rules.specs.Each.{facts_upto, trail_upto}
use Rattle.run_rules.specs.Facts.{command_at, outcome_at}
use Rattle.run_rules.specs.Lawful.{History}
use Rattle.run_rules.specs.RunReport.{Call}
use Rattle.run_rules.specs.Runs.{answered_by, is_refused}
use Rattle.run_rules.specs.Tree.{tree}
use Rattle.run_claims.specs.Places.{past_upto, node_line, reported_of}

-- The SAVEPOINT of this name came from a session, in the turn after so many happenings, and was not refused.
pub record SetsSavepoint (t : History) (moment node session : ℕ) (name : List ℕ) : Type 0 where
  pub turn : Turn
  pub there : slice_get t.trace moment ≡ Some (happenings.Turn turn)
  pub here : turn.node ≡ node
  pub call : turn.input ≡ inputs.Call session (Some (stmts.Savepoint name))
  pub done : is_refused (answered_by (outcome_at t.places (facts_upto t moment) turn)) ≡ false

-- The last SAVEPOINT of this name of the transaction of a root, up to a moment.
pub record LastSavepoint (t : History) (root : BranchId) (name : List ℕ) (now : ℕ) : Type 0 where
  pub moment : ℕ
  pub set : SetsSavepoint t moment root.node root.session name
  pub before : moment < now
  pub began : Seen
  pub its : seen_at (trail_upto t (moment + 1)) root ≡ Some began
  pub last : (j : ℕ) → moment < j → j < now → SetsSavepoint t j root.node root.session name → ⊥

-- the keys of a branch that began
abbrev pub held_of : Option Seen → List Lock
held_of None = []
held_of (Some s) = held_keys s

-- A branch has again what it had: its changes, and its keys.
pub record HasAgain (s : Seen) (was : Option Seen) : Type 0 where
  pub changes : own_changes s ≡ own_of was
  pub keys : held_keys s ≡ held_of was

-- What ROLLBACK TO of a command is, once it is complete: its call ended after so many happenings, and each live branch of the
-- session tree has what it had at the SAVEPOINT.
pub record TreeReturns (t : History) (command node session : ℕ) (name : List ℕ) : Type 0 where
  pub ended : ℕ
  pub call : Call
  pub pending : call_at (past_upto t ended).run_report node session ≡ Some call
  pub its : call.command ≡ command
  pub over : call_at (past_upto t (ended + 1)).run_report node session ≡ None
  pub root : Seen
  pub transaction : root_at (trail_upto t (ended + 1)) node session ≡ Some root
  pub savepoint : LastSavepoint t root.me name (ended + 1)
  pub each : (b : BranchId) (s : Seen) → is_among b (tree (trail_upto t (ended + 1)) root.me) ≡ true → seen_at (trail_upto t (ended + 1)) b ≡ Some s → s.exit ≡ None
      → HasAgain s (seen_at (trail_upto t (savepoint.moment + 1)) b)

-- each line that tells that a ROLLBACK TO is complete is of such a one
abbrev pub TreesReturn : History → Type 0
TreesReturn t = (i command node session : ℕ) (name : List ℕ) → command_at t.commands command ≡ commands.At node session (Some (stmts.RollbackTo name))
    → slice_get (reported_of t) i ≡ Some (node_line command (answers.Did dones.RolledBack 0)) → TreeReturns t command node session name
