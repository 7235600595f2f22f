-- The keys that a run may lock, and those that it has.
use Rattle.std.specs.Prelude.{◌≡◌, ℕ, List, None, is_some, true}
use Rattle.std.specs.List.{All}
use Rattle.dtx_values.specs.declared.value.Value.{Value}
use Rattle.dtx_values.specs.declared.table.Table.{Table}
use Rattle.tran_ids.specs.declared.branch.BranchId.{BranchId}
use Rattle.row_locks.specs.Locks.{Lock, holder_of, other_holder}
use Rattle.stmt_run.specs.declared.ran.StmtOutcome.{StmtOutcome}
use Rattle.stmt_run.specs.declared.ran.StmtOutcome.TheVariants.{Refuses, Reads, Writes}

-- a key is free, or the branch's own
abbrev pub IsFree : List Lock → BranchId → List ℕ → Value → Type 0
IsFree locks me table key = other_holder locks me table key ≡ None

-- somebody has a key
abbrev pub IsHeld : List Lock → List ℕ → Value → Type 0
IsHeld locks table key = is_some (holder_of locks table key) ≡ true

-- the keys that a run locks are free, or the branch's own
abbrev pub LocksFreeKeys : List Lock → BranchId → Table → StmtOutcome → Type 0
LocksFreeKeys locks me t (Refuses r) = Unit {0}
LocksFreeKeys locks me t (Reads rows keys) = All (IsFree locks me t.name) keys
LocksFreeKeys locks me t (Writes d cs keys undo) = All (IsFree locks me t.name) keys
