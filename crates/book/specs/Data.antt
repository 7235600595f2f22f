-- The plain data that the definitions speak of, handed on from one place. Declares nothing.
pub use Rattle.dtx_values.specs.declared.row.Change.{Change}
pub use Rattle.dtx_values.specs.declared.table.Table.{Table}
pub use Rattle.tran_ids.specs.declared.branch.BranchId.{BranchId}
pub use Rattle.redo_record.specs.declared.decision.Decision.{Decision}
pub use Rattle.redo_record.specs.declared.decision.Decision.TheVariants as decisions
pub use Rattle.redo_record.specs.declared.record.Sealed.{Sealed}
pub use Rattle.redo_record.specs.declared.record.Decided.{Decided}
pub use Rattle.redo_record.specs.declared.record.RedoRecord.{RedoRecord}
pub use Rattle.redo_record.specs.declared.record.RedoRecord.TheVariants as records
pub use Rattle.book.specs.declared.entry.Entry.{Entry}
pub use Rattle.book.specs.declared.entry.Entry.TheVariants as entries
pub use Rattle.book.specs.declared.happening.Happening.{Happening}
pub use Rattle.book.specs.declared.happening.Happening.TheVariants as happenings
