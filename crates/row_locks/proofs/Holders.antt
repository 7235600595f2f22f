-- A branch has a key among its own exactly where it is the key's holder.
use Rattle.std.proofs.Common.{◌≡◌, ℕ, Bool, true, false, List, [], ◌∷◌, refl, sym, true≢false, arith}
use Rattle.std.specs.Prelude.{◌&&◌}
use Rattle.std.specs.List.{AllByRecursion, IsDistinct, list_any}
use Rattle.std.specs.Str.{bytes_eq}
use Rattle.std.specs.Cmp.Lexicographic.{bytes_decides}
use Rattle.dtx_values.specs.declared.value.Value.{Value}
use Rattle.dtx_values.specs.Order.{same_value}
use Rattle.dtx_values.proofs.ValueOrder.{equal_from_same}
use Rattle.tran_ids.specs.declared.branch.BranchId.{BranchId}
use Rattle.row_locks.specs.Locks.{Lock, is_lock_on, are_on_one_key, AreOnDistinctKeys, holder_of}
use Rattle.row_locks.specs.Held.{held_by, is_holder}

first_so : (a b : Bool) → (a && b) ≡ true → a ≡ true
first_so true b h = refl
first_so false b h = h

second_so : (a b : Bool) → (a && b) ≡ true → b ≡ true
second_so true b h = h
second_so false b h = absurd (true≢false (sym h))

-- a lock on the key of another is on it as that one is
on_as : (l x : Lock) (table : List ℕ) (key : Value) → is_lock_on table key x ≡ true → are_on_one_key l x ≡ is_lock_on table key l
on_as l x table key h =
    let tables = (bytes_decides x.table table).0 (first_so (bytes_eq x.table table) (same_value x.key key) h) in
    let keys = equal_from_same x.key key (second_so (bytes_eq x.table table) (same_value x.key key) h) in
    λ i. is_lock_on (tables i) (keys i) l

none_behind : (l : Lock) (ls : List Lock) (branch : BranchId) (table : List ℕ) (key : Value)
    → is_lock_on table key l ≡ true → AllByRecursion (λ x. are_on_one_key l x ≡ false) ls → list_any (is_lock_on table key) (held_by ls branch) ≡ false
none_behind l [] branch table key on apart = refl
none_behind l (x ∷ ls) branch table key on apart =
    grind (arith, none_behind l ls branch table key on apart.1, on_as l x table key, on, apart.0)

pub held_by_holder : (ls : List Lock) (branch : BranchId) (table : List ℕ) (key : Value)
    → AreOnDistinctKeys ls → list_any (is_lock_on table key) (held_by ls branch) ≡ is_holder branch (holder_of ls table key)
unfolding IsDistinct
held_by_holder [] branch table key apart = refl
held_by_holder (l ∷ ls) branch table key apart =
    let behind : is_lock_on table key l ≡ true → list_any (is_lock_on table key) (held_by ls branch) ≡ false = λ on. none_behind l ls branch table key on apart.0 in
    grind (arith, held_by_holder ls branch table key apart.1, behind)
