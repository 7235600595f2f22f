-- What the checks of a statement come to: a refusal, or the cells of the row that it inserts.
use Rattle.std.specs.Prelude.{◌≡◌, List, [], Option, None, Some}
use Rattle.sql_check.specs.Data.{Value, Table, Stmt, Refusal}
use Rattle.sql_check.specs.Data.stmts
use Rattle.sql_check.specs.Inserted.{cells_of, inserted_cells}
use Rattle.sql_check.specs.declared.passed.Checked.{Checked}
use Rattle.sql_check.specs.declared.passed.Checked.TheVariants.{Refused, Passed}

-- the cells of the row that a statement inserts
abbrev pub new_cells : Stmt → Table → List Value
new_cells (stmts.Insert table columns given) t = cells_of (inserted_cells t columns given)
new_cells s t = []

-- the refusal of a statement, where there is one
abbrev pub refusal_in : Checked → Option Refusal
refusal_in (Refused r) = Some r
refusal_in (Passed cells) = None

-- where it passes, it inserts these cells
abbrev pub Inserts : List Value → Checked → Type 0
Inserts cells (Refused r) = Unit {0}
Inserts cells (Passed own) = own ≡ cells
