-- The plain data that the definitions speak of, handed on from one place. Declares nothing.
pub use Rattle.dtx_values.specs.declared.row.Change.{Change}
pub use Rattle.dtx_values.specs.declared.table.Table.{Table}
pub use Rattle.tran_ids.specs.declared.branch.BranchId.{BranchId}
pub use Rattle.redo_record.specs.declared.decision.Decision.{Decision}
pub use Rattle.redo_record.specs.declared.decision.Decision.TheVariants as decisions
pub use Rattle.book.specs.declared.entry.Entry.{Entry}
pub use Rattle.book.specs.declared.entry.Entry.TheVariants as entries
