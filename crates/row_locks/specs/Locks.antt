-- Locks in the order in which they were taken.
use Rattle.std.specs.Prelude.{ℕ, Bool, false, if◌then◌else◌, not, ◌&&◌, ◌||◌, List, [], ◌∷◌, map, filter, flat_map, find, Option, None, Some}
use Rattle.std.specs.Str.{bytes_eq}
use Rattle.std.specs.List.{IsDistinct}
use Rattle.std.specs.Option.{option_map}
use Rattle.std.specs.declared.result.Result.{Result}
use Rattle.std.specs.declared.result.Result.TheVariants.{Ok, Err}
use Rattle.dtx_values.specs.declared.value.Value.{Value}
use Rattle.dtx_values.specs.Order.{same_value}
use Rattle.tran_ids.specs.declared.branch.BranchId.{BranchId}
use Rattle.tran_ids.specs.Branch.{same}
use Rattle.row_locks.specs.declared.lock_err.LockErr.{LockErr}
use Rattle.row_locks.specs.declared.lock_err.LockErr.TheVariants.{Held, NoMemory}

-- A key of a table that a branch holds: whether it writes the row of the key, and whether the branch is in doubt.
pub record Lock : Type 0 where
  pub table : List ℕ
  pub key : Value
  pub branch : BranchId
  pub writes : Bool
  pub in_doubt : Bool

-- whether a lock is on this key
abbrev pub is_lock_on : List ℕ → Value → Lock → Bool
is_lock_on table key l = bytes_eq l.table table && same_value l.key key

-- whether two locks are on the same key
abbrev pub are_on_one_key : Lock → Lock → Bool
are_on_one_key a b = is_lock_on b.table b.key a

-- no lock is on the key of another
abbrev pub AreOnDistinctKeys : List Lock → Type 0
AreOnDistinctKeys locks = IsDistinct are_on_one_key locks

-- whether a branch holds it
abbrev pub is_held_by : BranchId → Lock → Bool
is_held_by branch l = same l.branch branch

-- the branch that has a lock, and whether it is in doubt
abbrev pub named : Lock → BranchId × Bool
named l = (l.branch, l.in_doubt)

-- the holder of a key, and whether it is in doubt
abbrev pub holder_of : List Lock → List ℕ → Value → Option (BranchId × Bool)
holder_of locks table key = option_map named (find (is_lock_on table key) locks)

-- a holder, where it is another branch
abbrev pub another : BranchId → Option (BranchId × Bool) → Option (BranchId × Bool)
another branch None = None
another branch (Some h) = if same h.0 branch then None else Some h

-- the holder of a key, where it is another branch
abbrev pub other_holder : List Lock → BranchId → List ℕ → Value → Option (BranchId × Bool)
other_holder locks branch table key = another branch (holder_of locks table key)

-- the holder that an error names
abbrev pub holder_in : LockErr → Option (BranchId × Bool)
holder_in (Held by in_doubt) = Some (by, in_doubt)
holder_in NoMemory = None

-- the holder that a refusal names
abbrev pub named_holder : {A : Type 0} → Result A LockErr → Option (BranchId × Bool)
named_holder (Ok x) = None
named_holder (Err e) = holder_in e

-- the lock of a key that was free
abbrev pub new_lock : BranchId → List ℕ → Value → Bool → Lock
new_lock branch table key writes = record { table = table; key = key; branch = branch; writes = writes; in_doubt = false }

-- the locks with this key, which is free or the branch's own; it stays written once it was taken to be written
abbrev pub taken : List Lock → BranchId → List ℕ → Value → Bool → List Lock
taken [] branch table key writes = new_lock branch table key writes ∷ []
taken (l ∷ ls) branch table key writes =
    if is_lock_on table key l then record l { writes = l.writes || writes } ∷ ls else l ∷ taken ls branch table key writes

-- every key of the table that a branch holds
abbrev pub keys_held : List Lock → List ℕ → List Value
keys_held locks table = map (λ l. l.key) (filter (λ l. bytes_eq l.table table) locks)

-- a lock from the moment when the branch is in doubt
abbrev pub doubted : BranchId → Lock → Lock
doubted branch l = record l { in_doubt = l.in_doubt || is_held_by branch l }

-- the locks from then on
abbrev pub in_doubt_from_now : List Lock → BranchId → List Lock
in_doubt_from_now locks branch = map (doubted branch) locks

-- the locks but for the branch's
abbrev pub without : List Lock → BranchId → List Lock
without locks branch = filter (λ l. not (is_held_by branch l)) locks

-- a lock of a branch that went back: it stays where a remaining statement wrote its key, and writes where a change is left
abbrev pub lock_back : BranchId → (Lock → Bool) → (Lock → Bool) → Lock → List Lock
lock_back branch stays writes l =
    if is_held_by branch l then (if stays l then (record l { writes = writes l }) ∷ [] else []) else l ∷ []

-- the locks after a branch went back
abbrev pub locks_back : BranchId → (Lock → Bool) → (Lock → Bool) → List Lock → List Lock
locks_back branch stays writes locks = flat_map (lock_back branch stays writes) locks

-- the locks but for those of keys that the branch only reads
abbrev pub without_reads : List Lock → BranchId → List Lock
without_reads locks branch = filter (λ l. not (is_held_by branch l) || l.writes) locks
