-- How locks are kept: each with a number of its own, which rises in the order of taking, and for each key the number of its
-- lock.
use Rattle.std.specs.Prelude.{◌≡◌, ℕ, ◌<◌, Bool, true, false, not, ◌&&◌, ◌||◌, if◌then◌else◌, List, [], ◌∷◌, map, filter, find, length, Option, None, Some}
use Rattle.std.specs.BTreeMap.{is_at}
use Rattle.std.specs.Cow.{cow_value}
use Rattle.std.specs.List.{AllByRecursion, list_any}
use Rattle.std.specs.Map.{lookup}
use Rattle.std.specs.Option.{option_map}
use Rattle.std.specs.Ordering.{nat_cmp}
use Rattle.std.specs.Str.{bytes_eq}
use Rattle.dtx_values.specs.declared.value.Value.{Value}
use Rattle.dtx_values.specs.Order.{same_value}
use Rattle.tran_ids.specs.declared.branch.BranchId.{BranchId}
use Rattle.tran_ids.specs.Branch.{same}
use Rattle.row_locks.specs.declared.held_key.HeldKey.{HeldKey}
use Rattle.row_locks.specs.declared.held_key.Holder.{Holder}
use Rattle.row_locks.specs.declared.lock_key.LockKey.{LockKey}
use Rattle.row_locks.specs.Locks.{Lock, is_lock_on, AreOnDistinctKeys}

-- a lock with its number
abbrev pub Numbered : Type 0
Numbered = ℕ × HeldKey

-- the lock that is kept as this
abbrev pub lock_of : HeldKey → Lock
lock_of h = record { table = h.table; key = h.key; branch = h.branch; writes = h.writes; in_doubt = h.in_doubt }

-- locks without their numbers
abbrev pub locks_in : List Numbered → List Lock
locks_in es = map (λ e. lock_of e.1) es

-- whether a lock is on this key
abbrev pub is_on : List ℕ → Value → Numbered → Bool
is_on table key e = is_lock_on table key (lock_of e.1)

-- whether two numbers are the same
abbrev pub is_number : ℕ → ℕ → Bool
is_number n = is_at (nat_cmp n)

-- who has a lock, and its number
abbrev pub holder_in : Numbered → Holder
holder_in e = record { number = e.0; branch = e.1.branch; in_doubt = e.1.in_doubt }

-- who holds a key
abbrev pub holder_on : List Numbered → List ℕ → Value → Option Holder
holder_on es table key = option_map holder_in (find (is_on table key) es)

-- the number of the lock on a key
abbrev pub number_on : List Numbered → List ℕ → Value → Option ℕ
number_on es table key = option_map (λ e. e.0) (find (is_on table key) es)

-- the number that is kept for a key
abbrev pub number_at : List (LockKey × ℕ) → List ℕ → Value → Option ℕ
number_at ks table key = lookup (λ k. bytes_eq (cow_value k.table) table && same_value (cow_value k.key) key) ks

-- a lock, where it is not in doubt
abbrev pub is_live_one : Option HeldKey → Bool
is_live_one None = false
is_live_one (Some h) = not h.in_doubt

-- a lock, where its key is only read
abbrev pub is_read_one : Option HeldKey → Bool
is_read_one None = false
is_read_one (Some h) = not h.writes

-- whether a number is among these
abbrev pub is_among : List ℕ → ℕ → Bool
is_among numbers n = list_any (λ m. is_number m n) numbers

-- the locks but for those of some numbers
abbrev pub without_numbers : List ℕ → List Numbered → List Numbered
without_numbers numbers es = filter (λ e. not (is_among numbers e.0)) es

-- the locks but for those of some numbers whose keys are only read
abbrev pub without_read_numbers : List ℕ → List Numbered → List Numbered
without_read_numbers numbers es = filter (λ e. not (is_among numbers e.0) || e.1.writes) es

-- a lock whose key is written from now on
abbrev pub written : HeldKey → HeldKey
written h = record h { writes = true }

-- a lock that is in doubt from now on
abbrev pub doubtful : HeldKey → HeldKey
doubtful h = record h { in_doubt = true }

-- the locks of some numbers are changed
abbrev pub changed_at : (HeldKey → HeldKey) → List ℕ → List Numbered → List Numbered
changed_at f numbers es = map (λ e. if is_among numbers e.0 then (e.0, f e.1) else e) es

-- no lock has this number
abbrev pub HasNone : ℕ → List Numbered → Type 0
HasNone n es = AllByRecursion (λ e. is_number n e.0 ≡ false) es

-- no two locks have the same number
abbrev pub HaveOwnNumbers : List Numbered → Type 0
HaveOwnNumbers [] = Unit {0}
HaveOwnNumbers (e ∷ es) = HasNone e.0 es × HaveOwnNumbers es

-- the numbers of a branch's locks
abbrev pub numbers_of : BranchId → List Numbered → List ℕ
numbers_of branch es = map (λ e. e.0) (filter (λ e. same e.1.branch branch) es)

-- no two locks have the same number or are on the same key
pub record AreApart (es : List Numbered) : Type 0 where
  pub numbers : HaveOwnNumbers es
  pub keys : AreOnDistinctKeys (locks_in es)

-- locks, the number kept for each key, the next number, and how many locks are in doubt
pub record AreNumbered (es : List Numbered) (ks : List (LockKey × ℕ)) (next doubts : ℕ) : Type 0 where
  pub apart : AreApart es
  pub below : AllByRecursion (λ e. e.0 < next) es
  pub found : (table : List ℕ) (key : Value) → number_at ks table key ≡ number_on es table key
  pub counted : doubts ≡ length (filter (λ e. e.1.in_doubt) es)
