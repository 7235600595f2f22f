-- The laws tried on a table of keys and numbers, where a branch in doubt holds the keys 2 and 3: the view of a node, which holds
-- its changes back, and the view in which they are committed.
use Rattle.std.specs.Prelude.{◌≡◌, ℕ, Bool, true, false, List, [], ◌∷◌, codes, pos, None, Some}
use Rattle.dtx_values.specs.declared.value.Value.{Value}
use Rattle.dtx_values.specs.declared.value.Value.TheVariants as values
use Rattle.dtx_values.specs.declared.row.Change.{Change}
use Rattle.dtx_values.specs.declared.table.Column.{Column}
use Rattle.dtx_values.specs.declared.table.Table.{Table}
use Rattle.tran_ids.specs.declared.branch.BranchId.{BranchId}
use Rattle.tran_ids.specs.Texts.{local_text}
use Rattle.sql_statement.specs.declared.statement.Stmt.{Stmt}
use Rattle.sql_statement.specs.declared.statement.Stmt.TheVariants as stmts
use Rattle.sql_statement.specs.declared.query.Picked.TheVariants as picks
use Rattle.sql_statement.specs.declared.condition.Cond.TheVariants as conds
use Rattle.sql_statement.specs.declared.condition.Sign.TheVariants as signs
use Rattle.sql_check.specs.Refusals.{ora}
use Rattle.sql_check.specs.Words.{one}
use Rattle.sql_eval.specs.declared.keyed.Keyed.{Keyed}
use Rattle.sql_eval.specs.declared.meant.Meant.{Meant}
use Rattle.sql_eval.specs.declared.meant.Meant.TheVariants.{Gives}
use Rattle.sql_eval.specs.Rows.{apply}
use Rattle.sql_eval.specs.Meaning.{examined, meant, row_set}
use Rattle.row_locks.specs.Locks.{Lock, keys_held}
use Rattle.stmt_run.specs.declared.ran.StmtOutcome.TheVariants.{Refuses, Reads}
use Rattle.stmt_run.specs.Run.{StmtContext, ran_over}
use Rattle.stmt_view_laws.specs.Views.{SeesAlike}
use Rattle.stmt_view_laws.specs.RunLaws.{IsViewBeside}

-- a number
abbrev number : ℕ → Value
number n = values.Number (pos n)

-- a column of numbers
abbrev column : List ℕ → Bool → Column
column name key = record { name = name; text_max = None; not_null = false; key = key }

-- the table T (K NUMBER PRIMARY KEY, V NUMBER)
abbrev pub table : Table
table = record { name = codes "T"; columns = column (codes "K") true ∷ column (codes "V") false ∷ [] }

-- a row of it
abbrev row : ℕ → ℕ → Keyed
row key n = record { key = number key; row = record { cells = number key ∷ number n ∷ [] } }

-- the view of the node
abbrev pub held_back : List Keyed
held_back = row 1 10 ∷ row 3 30 ∷ []

-- the changes of the branch in doubt: an INSERT at 2, an UPDATE at 3
abbrev pub changes : List Change
changes =
    (record { table = codes "T"; key = number 2; after = Some (row 2 20).row })
    ∷ (record { table = codes "T"; key = number 3; after = Some (row 3 31).row })
    ∷ []

-- the view in which they are committed
abbrev pub committed : List Keyed
committed = row 1 10 ∷ row 2 20 ∷ row 3 31 ∷ []

-- the keys in doubt
abbrev pub doubtful : List Value
doubtful = number 2 ∷ number 3 ∷ []

-- the branch in doubt
abbrev pub branch : BranchId
branch = record { node = 1; boot = 1; session = 1; seq = 1 }

-- its lock on a key
abbrev lock : Value → Lock
lock key = record { table = codes "T"; key = key; branch = branch; writes = true; in_doubt = true }

-- what a statement of another branch meets
abbrev pub ground : StmtContext
ground = record { me = record branch { session = 2 }; view = held_back; too_old = false; locks = lock (number 2) ∷ lock (number 3) ∷ []; bytes = 0; undo = 0; free = 0 }

-- SELECT * FROM T WHERE K = n
abbrev pub row_at : ℕ → Stmt
row_at n = stmts.Select picks.All (record { name = codes "T"; link = None }) (conds.Compare (codes "K") signs.Eq (number n) ∷ []) false

-- SELECT COUNT(*) FROM T
abbrev pub count : Stmt
count = stmts.Select picks.Count (record { name = codes "T"; link = None }) [] false

-- the answer to the first
abbrev pub first_row : Meant
first_row = Gives (row_set (codes "K" ∷ codes "V" ∷ []) ((number 1 ∷ number 10 ∷ []) ∷ []))

-- and to the second
abbrev pub counted : ℕ → Meant
counted n = Gives (row_set (one (codes "COUNT(*)")) (one (one (number n))))

-- The row at 1 is the same in both views, and COUNT(*) is not. It examines 2, at which no row stands in the node's view,
-- because 2 is locked. The node gives the row at 1 and refuses COUNT(*) with ORA-01591.
pub record TheTriedViews : Type 0 where
  pub left : apply (codes "T") held_back changes ≡ committed
  pub alike : SeesAlike (row_at 1) table doubtful doubtful held_back committed
  pub beside : IsViewBeside ground table doubtful committed
  pub first : meant (row_at 1) table held_back ≡ first_row
  pub first_left : meant (row_at 1) table committed ≡ first_row
  pub counts : meant count table held_back ≡ counted 2
  pub counts_left : meant count table committed ≡ counted 3
  pub misses : examined count table held_back [] ≡ number 1 ∷ number 3 ∷ []
  pub examines : examined count table held_back (keys_held ground.locks (codes "T")) ≡ number 1 ∷ number 2 ∷ number 3 ∷ []
  pub reads : ran_over ground (row_at 1) table ≡ Reads (row_set (codes "K" ∷ codes "V" ∷ []) ((number 1 ∷ number 10 ∷ []) ∷ [])) []
  pub refuses : ran_over ground count table ≡ Refuses (ora 1591 (one (local_text branch)))
