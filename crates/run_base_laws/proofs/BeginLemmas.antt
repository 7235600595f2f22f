-- Which statements begin a transaction, and the SCN at which it reads.
use Rattle.std.proofs.Common.{◌≡◌, ℕ, true, Option, None, refl}
use Rattle.node_rules.specs.Data.{Stmt, Done}
use Rattle.node_rules.specs.Data.stmts
use Rattle.node_rules.proofs.Steps.{IsOfRows, BeginsBy, By_rows, By_savepoint, By_read_only, EndsAtOnce, By_rollback_call, By_reading}
use Rattle.run_rules.specs.Runs.{is_of_rows, begins_transaction}
use Rattle.run_rules.specs.Births.{read_at_by}

-- a statement that begins a transaction where the session has none
abbrev pub MayBegin : Stmt → Type 0
MayBegin stmts.SetReadOnly = Unit {0}
MayBegin (stmts.Savepoint name) = Unit {0}
MayBegin s = IsOfRows s

rows_may : (s : Stmt) → IsOfRows s → MayBegin s
rows_may stmts.SetReadOnly rows = tt
rows_may (stmts.Savepoint name) rows = tt
rows_may s rows = rows

-- what begins one is such a statement
pub may_begin : {clock : ℕ} {s : Stmt} {read_at : Option ℕ} → BeginsBy clock s read_at → MayBegin s
may_begin (By_rows s rows) = rows_may s rows
may_begin (By_savepoint name) = tt
may_begin By_read_only = tt

-- a statement that ends a root at once begins none
pub ends_begin_none : {code read_at : Option ℕ} {s : Stmt} {d : Done} → EndsAtOnce code read_at s d → MayBegin s → ⊥
ends_begin_none By_rollback_call begins = begins
ends_begin_none (By_reading comment scn no_code reads) begins = begins

rows_read : (clock : ℕ) (s : Stmt) → IsOfRows s → None ≡ read_at_by clock s
rows_read clock stmts.SetReadOnly rows = absurd rows
rows_read clock s rows = refl

-- and it reads at the clock where it is READ ONLY
pub begins_at : {clock : ℕ} {s : Stmt} {read_at : Option ℕ} → BeginsBy clock s read_at → read_at ≡ read_at_by clock s
begins_at {clock = clock} (By_rows s rows) = rows_read clock s rows
begins_at (By_savepoint name) = refl
begins_at By_read_only = refl

rows_begin : (s : Stmt) → IsOfRows s → begins_transaction s ≡ true
rows_begin (stmts.Insert table columns given) rows = refl
rows_begin (stmts.Update table sets cs) rows = refl
rows_begin (stmts.Delete table cs) rows = refl
rows_begin (stmts.Select list table cs for_update) rows = refl
rows_begin _ rows = absurd rows

pub begins_are : {clock : ℕ} {s : Stmt} {read_at : Option ℕ} → BeginsBy clock s read_at → begins_transaction s ≡ true
begins_are (By_rows s rows) = rows_begin s rows
begins_are (By_savepoint name) = refl
begins_are By_read_only = refl

rows_so : (s : Stmt) → is_of_rows s ≡ true → IsOfRows s
rows_so (stmts.Insert table columns given) rows = tt
rows_so (stmts.Update table sets cs) rows = tt
rows_so (stmts.Delete table cs) rows = tt
rows_so (stmts.Select list table cs for_update) rows = tt
rows_so _ rows = absurd cc

-- and the statements that begin one do so
pub begins_so : (clock : ℕ) (s : Stmt) → begins_transaction s ≡ true → BeginsBy clock s (read_at_by clock s)
begins_so clock stmts.SetReadOnly is = By_read_only
begins_so clock (stmts.Savepoint name) is = By_savepoint name
begins_so clock s is = By_rows s (rows_so s is)
