-- What a branch keeps of its locks when it goes back to a savepoint: the keys that remaining statements wrote, by their notes,
-- and those at which changes are left. (SQL Language Reference, ROLLBACK: rows locked since the savepoint are released.)
use Rattle.std.specs.Prelude.{ℕ, Bool, ◌&&◌, ◌||◌, if◌then◌else◌, List, map}
use Rattle.std.specs.List.{list_any}
use Rattle.std.specs.Str.{bytes_eq}
use Rattle.dtx_values.specs.declared.value.Value.{Value}
use Rattle.dtx_values.specs.declared.row.Change.{Change}
use Rattle.dtx_values.specs.Order.{same_value}
use Rattle.savepoints.specs.declared.marks.Note.{Note}
use Rattle.savepoints.specs.Marks.{is_key}
use Rattle.tran_ids.specs.declared.branch.BranchId.{BranchId}
use Rattle.row_locks.specs.declared.held_key.HeldKey.{HeldKey}
use Rattle.row_locks.specs.Locks.{Lock, is_held_by, locks_back}

-- whether a change is at a key
abbrev pub is_change_at : List ℕ → Value → Change → Bool
is_change_at table key c = bytes_eq c.table table && same_value c.key key

-- whether one of these changes is at it
abbrev pub is_changed_in : List Change → List ℕ → Value → Bool
is_changed_in cs table key = list_any (is_change_at table key) cs

-- whether one of these notes has a key
abbrev pub is_noted_in : List Note → List ℕ → Value → Bool
is_noted_in ns table key = list_any (λ n. list_any (is_key table key) n.keys) ns

-- whether a key stays with its branch: a note has it, or a change is at it
abbrev pub stays_by : List Note → List Change → List ℕ → Value → Bool
stays_by ns cs table key = is_noted_in ns table key || is_changed_in cs table key

-- a lock that counts as written where its key stays
abbrev pub kept_if : List Note → List Change → HeldKey → HeldKey
kept_if ns cs h = record h { writes = stays_by ns cs h.table h.key }

-- a lock of this branch that counts as written where its key stays
abbrev pub kept_by : BranchId → List Note → List Change → Lock → Lock
kept_by branch ns cs l = if is_held_by branch l then record l { writes = stays_by ns cs l.table l.key } else l

-- the locks then
abbrev pub with_kept : List Lock → BranchId → List Note → List Change → List Lock
with_kept locks branch ns cs = map (kept_by branch ns cs) locks

-- the locks after a branch went back, with these notes and changes left to it
abbrev pub gone_back : List Lock → BranchId → List Note → List Change → List Lock
gone_back locks branch ns cs = locks_back branch (λ l. stays_by ns cs l.table l.key) (λ l. is_changed_in cs l.table l.key) locks
