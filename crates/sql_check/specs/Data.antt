-- The plain data that a statement and a table are made of, handed on from one place. Declares nothing.
pub use Rattle.dtx_values.specs.declared.value.Value.{Value}
pub use Rattle.dtx_values.specs.declared.value.Value.TheVariants as values
pub use Rattle.dtx_values.specs.declared.row.Row.{Row}
pub use Rattle.dtx_values.specs.declared.table.Column.{Column}
pub use Rattle.dtx_values.specs.declared.table.Table.{Table}
pub use Rattle.dtx_values.specs.declared.answer.Refusal.{Refusal}
pub use Rattle.sql_statement.specs.declared.statement.Set.{Set}
pub use Rattle.sql_statement.specs.declared.sum.Term.{Term}
pub use Rattle.sql_statement.specs.declared.sum.Term.TheVariants as terms
pub use Rattle.sql_statement.specs.declared.sum.Step.{Step}
pub use Rattle.sql_statement.specs.declared.sum.Sum.{Sum}
pub use Rattle.sql_statement.specs.declared.condition.Cond.{Cond}
pub use Rattle.sql_statement.specs.declared.condition.Cond.TheVariants as conds
pub use Rattle.sql_statement.specs.declared.query.Picked.{Picked}
pub use Rattle.sql_statement.specs.declared.query.Picked.TheVariants as picks
pub use Rattle.sql_statement.specs.declared.statement.Stmt.{Stmt}
pub use Rattle.sql_statement.specs.declared.statement.Stmt.TheVariants as stmts
