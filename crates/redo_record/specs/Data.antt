-- The plain data that the definitions speak of, handed on from one place. Declares nothing.
pub use Rattle.tran_ids.specs.declared.branch.BranchId.{BranchId}
pub use Rattle.redo_record.specs.declared.decision.Decision.{Decision}
pub use Rattle.redo_record.specs.declared.decision.Decision.TheVariants as decisions
pub use Rattle.redo_record.specs.declared.record.Peer.{Peer}
pub use Rattle.redo_record.specs.declared.record.Toward.{Toward}
pub use Rattle.redo_record.specs.declared.record.Toward.TheVariants as towards
pub use Rattle.redo_record.specs.declared.record.Param.{Param}
pub use Rattle.redo_record.specs.declared.record.Param.TheVariants as params
pub use Rattle.redo_record.specs.declared.record.Sealed.{Sealed}
pub use Rattle.redo_record.specs.declared.record.Decided.{Decided}
pub use Rattle.redo_record.specs.declared.image.KeptState.{KeptState}
pub use Rattle.redo_record.specs.declared.image.KeptState.TheVariants as kept_states
pub use Rattle.redo_record.specs.declared.image.KeptItem.{KeptItem}
pub use Rattle.redo_record.specs.declared.image.Image.{Image}
pub use Rattle.redo_record.specs.declared.record.RedoRecord.{RedoRecord}
pub use Rattle.redo_record.specs.declared.record.RedoRecord.TheVariants as records
pub use Rattle.redo_record.specs.declared.durable.State.{State}
pub use Rattle.redo_record.specs.declared.durable.State.TheVariants as states
pub use Rattle.redo_record.specs.declared.durable.Kid.{Kid}
pub use Rattle.redo_record.specs.declared.durable.KeptRow.{KeptRow}
pub use Rattle.redo_record.specs.declared.durable.Durable.{Durable}
