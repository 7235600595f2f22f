-- Where no key of a table is in doubt, none of the keys that a statement examines there is.
use Rattle.std.proofs.Common.{◌≡◌, ℕ, false, ◌&&◌, List, [], ◌∷◌, Option, None, map, refl, arith}
use Rattle.std.specs.List.{list_any}
use Rattle.std.specs.Str.{bytes_eq}
use Rattle.dtx_values.specs.declared.value.Value.{Value}
use Rattle.tran_ids.specs.declared.branch.BranchId.{BranchId}
use Rattle.sql_check.specs.Words.{first_some}
use Rattle.row_locks.specs.Locks.{Lock}
use Rattle.row_locks.specs.Held.{doubt_on}

no_doubt_on : (ls : List Lock) (table : List ℕ) (key : Value) → list_any (λ l. l.in_doubt && bytes_eq l.table table) ls ≡ false → doubt_on ls table key ≡ None
no_doubt_on [] table key h = refl
no_doubt_on (l ∷ ls) table key h = grind (arith, no_doubt_on ls table key)

first_of_none : (f : Value → Option BranchId) → ((key : Value) → f key ≡ None) → (keys : List Value) → first_some (map f keys) ≡ None
first_of_none f none [] = refl
first_of_none f none (k ∷ ks) = rw (none k) (first_of_none f none ks)

pub none_in_doubt : (ls : List Lock) (table : List ℕ) (keys : List Value) → list_any (λ l. l.in_doubt && bytes_eq l.table table) ls ≡ false → first_some (map (doubt_on ls table) keys) ≡ None
none_in_doubt ls table keys h = first_of_none (doubt_on ls table) (λ key. no_doubt_on ls table key h) keys
