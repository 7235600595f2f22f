-- What a statement meets where it reads given rows; and where a row of a key stands among rows in the order of their keys, or comes.
use Rattle.std.specs.Prelude.{◌||◌, Bool, true, false, List, Option, Some, None}
use Rattle.dtx_values.specs.declared.value.Value.{Value}
use Rattle.dtx_values.specs.Order.{value_below, same_value}
use Rattle.tran_ids.specs.declared.branch.BranchId.{BranchId}
use Rattle.sql_eval.specs.declared.keyed.Keyed.{Keyed}
use Rattle.row_locks.specs.Locks.{Lock}
use Rattle.stmt_run.specs.Run.{StmtContext}
use Rattle.sql_statement.specs.declared.statement.Stmt.{Stmt}
use Rattle.sql_statement.specs.declared.statement.Stmt.TheVariants as stmts
use Rattle.sql_eval.specs.declared.meant.Meant.{Meant}
use Rattle.sql_eval.specs.declared.meant.Meant.TheVariants as meants

-- what a statement of a branch meets that sees these rows, as far as it makes no changes
abbrev pub past_ground : List Keyed → Bool → List Lock → BranchId → StmtContext
past_ground rows too_old locks me = record { me = me; view = rows; too_old = too_old; locks = locks; bytes = 0; undo = 0; free = 0 }

-- whether a statement is a SELECT that locks nothing
abbrev pub is_query : Stmt → Bool
is_query (stmts.Select list table cs false) = true
is_query _ = false

-- what a statement means that changes nothing
abbrev pub ChangesNothing : Meant → Type 0
ChangesNothing (meants.Changes d n cs) = ⊥
ChangesNothing _ = Unit {0}

-- whether a row has this key, or comes behind it
abbrev pub comes_first : Value → Keyed → Bool
comes_first key r = same_value r.key key || value_below key r.key

-- whether a row that is there has this key
abbrev pub stands : Value → Option Keyed → Bool
stands key None = false
stands key (Some r) = same_value r.key key
