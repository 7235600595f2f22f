-- How the map of keys finds a key, and which locks are on one key.
use Rattle.std.proofs.Common.{◌≡◌, ℕ, Bool, true, ◌&&◌, List, sym, ap, ◌∙◌}
use Rattle.std.proofs.lemmas.Bool.{and_parts}
use Rattle.std.specs.Cow.{cow_value}
use Rattle.std.specs.Cmp.Lexicographic.{bytes_decides}
use Rattle.std.specs.declared.borrow.Cow.TheVariants.{Owned}
use Rattle.std.specs.Map.{lookup}
use Rattle.std.specs.Str.{bytes_eq}
use Rattle.dtx_values.specs.declared.value.Value.{Value}
use Rattle.dtx_values.specs.Order.{same_value}
use Rattle.dtx_values.proofs.ValueOrder.{derived_same, equal_from_same}
use Rattle.row_locks.specs.declared.held_key.HeldKey.{HeldKey}
use Rattle.row_locks.specs.declared.lock_key.LockKey.{LockKey}
use Rattle.row_locks.specs.contracts.lock_key.LockKeyPartialEq.TheImpl as of_key
use Rattle.row_locks.specs.contracts.lock_key.LockKeyEq.TheImpl.Laws.{laws-law}
use Rattle.row_locks.specs.Locks.{Lock, is_lock_on}
use Rattle.row_locks.specs.Numbered.{lock_of, number_at}

-- the test by which the map finds a key
abbrev pub found_as : LockKey → LockKey → Bool
found_as = of_key.eq-value.it

-- a key as the map would own it
abbrev pub asked : List ℕ → Value → LockKey
asked table key = record { table = Owned table; key = Owned key }

key_is : (a b : LockKey) → found_as a b ≡ (bytes_eq (cow_value a.table) (cow_value b.table) && same_value (cow_value a.key) (cow_value b.key))
key_is a b = ap (λ both. bytes_eq (cow_value a.table) (cow_value b.table) && both) (derived_same (cow_value a.key) (cow_value b.key))

found_is : (q k : LockKey) → found_as q k ≡ (bytes_eq (cow_value k.table) (cow_value q.table) && same_value (cow_value k.key) (cow_value q.key))
found_is q k = laws-law.symm q k ∙ key_is k q

-- a look-up in the map
pub lookup_is : (q : LockKey) (ks : List (LockKey × ℕ)) → lookup (found_as q) ks ≡ number_at ks (cow_value q.table) (cow_value q.key)
lookup_is q ks = λ i. lookup (λ k. found_is q k i) ks

-- an owned key is found where its lock is
pub hit_is : (k : LockKey) (h : HeldKey) (table : List ℕ) (key : Value) → cow_value k.table ≡ h.table → cow_value k.key ≡ h.key
    → found_as k (asked table key) ≡ is_lock_on table key (lock_of h)
hit_is k h table key tables keys = key_is k (asked table key) ∙ (λ i. bytes_eq (tables i) table && same_value (keys i) key)

-- two locks that are on one key
pub on_as : (l : Lock) (table : List ℕ) (key : Value) → is_lock_on table key l ≡ true → (x : Lock) → is_lock_on table key x ≡ is_lock_on l.table l.key x
on_as l table key on x =
    let both = and_parts (bytes_eq l.table table) (same_value l.key key) on in
    let tables = (bytes_decides l.table table).0 both.0 in
    let keys = equal_from_same l.key key both.1 in
    λ i. is_lock_on (sym tables i) (sym keys i) x
