-- The plain data that a statement and the rows of a table are made of, handed on from one place. Declares nothing.
pub use Rattle.sql_check.specs.Data.{Value, Row, Column, Table, Refusal, Set, Term, Step, Sum, Cond, Picked, Stmt}
pub use Rattle.sql_check.specs.Data.values
pub use Rattle.sql_check.specs.Data.terms
pub use Rattle.sql_check.specs.Data.conds
pub use Rattle.sql_check.specs.Data.picks
pub use Rattle.sql_check.specs.Data.stmts
pub use Rattle.dtx_values.specs.declared.row.Change.{Change}
pub use Rattle.dtx_values.specs.declared.answer.RowSet.{RowSet}
pub use Rattle.dtx_values.specs.declared.answer.Done.{Done}
pub use Rattle.dtx_values.specs.declared.answer.Done.TheVariants as dones
pub use Rattle.sql_statement.specs.declared.condition.Sign.{Sign}
pub use Rattle.sql_statement.specs.declared.condition.Sign.TheVariants as signs
pub use Rattle.sql_eval.specs.declared.keyed.Keyed.{Keyed}
pub use Rattle.sql_eval.specs.declared.meant.Meant.{Meant}
pub use Rattle.sql_eval.specs.declared.meant.Meant.TheVariants as meants
