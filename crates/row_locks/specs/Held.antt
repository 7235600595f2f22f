-- What one branch holds, and who holds a key, by the list of all locks.
use Rattle.std.specs.Prelude.{ℕ, Bool, false, if◌then◌else◌, List, filter, Option, None, Some}
use Rattle.dtx_values.specs.declared.value.Value.{Value}
use Rattle.tran_ids.specs.declared.branch.BranchId.{BranchId}
use Rattle.tran_ids.specs.Branch.{same}
use Rattle.row_locks.specs.Locks.{Lock, is_held_by, holder_of, other_holder}

-- the locks of a branch in the order in which it took them
abbrev pub held_by : List Lock → BranchId → List Lock
held_by locks branch = filter (is_held_by branch) locks

-- whether it is this branch that holds a key
abbrev pub is_holder : BranchId → Option (BranchId × Bool) → Bool
is_holder branch None = false
is_holder branch (Some h) = same h.0 branch

-- those of keys that are written
abbrev pub written_of : List Lock → List Lock
written_of locks = filter (λ l. l.writes) locks

-- a holder that is in doubt
abbrev pub in_doubt_one : Option (BranchId × Bool) → Option BranchId
in_doubt_one None = None
in_doubt_one (Some h) = if h.1 then Some h.0 else None

-- a holder that is not in doubt
abbrev pub live_one : Option (BranchId × Bool) → Option BranchId
live_one None = None
live_one (Some h) = if h.1 then None else Some h.0

-- the branch in doubt that holds a key
abbrev pub doubt_on : List Lock → List ℕ → Value → Option BranchId
doubt_on locks table key = in_doubt_one (holder_of locks table key)

-- another live branch that holds a key
abbrev pub hold_on : List Lock → BranchId → List ℕ → Value → Option BranchId
hold_on locks me table key = live_one (other_holder locks me table key)
