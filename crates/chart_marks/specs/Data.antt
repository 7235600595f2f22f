-- The plain data that the definitions speak of, handed on from one place. Declares nothing.
pub use Rattle.tran_ids.specs.declared.branch.BranchId.{BranchId}
pub use Rattle.redo_record.specs.declared.decision.Decision.{Decision}
pub use Rattle.redo_record.specs.declared.decision.Decision.TheVariants as decisions
pub use Rattle.redo_record.specs.declared.record.RedoRecord.{RedoRecord}
pub use Rattle.redo_record.specs.declared.record.RedoRecord.TheVariants as records
pub use Rattle.wire_msg.specs.declared.msg.Msg.{Msg}
pub use Rattle.wire_msg.specs.declared.input.Input.{Input}
pub use Rattle.wire_msg.specs.declared.input.Input.TheVariants as inputs
pub use Rattle.book.specs.declared.happening.Took.{Took}
pub use Rattle.book.specs.declared.happening.Turn.{Turn}
pub use Rattle.book.specs.declared.happening.Happening.{Happening}
pub use Rattle.book.specs.declared.happening.Happening.TheVariants as happenings
pub use Rattle.chart_marks.specs.declared.mark.Told.{Told}
pub use Rattle.chart_marks.specs.declared.mark.Band.{Band}
pub use Rattle.chart_marks.specs.declared.mark.End.{End}
pub use Rattle.chart_marks.specs.declared.mark.End.TheVariants as ends
pub use Rattle.chart_marks.specs.declared.mark.Arrow.{Arrow}
pub use Rattle.chart_marks.specs.declared.mark.Repeat.{Repeat}
pub use Rattle.chart_marks.specs.declared.mark.NoteKind.{NoteKind}
pub use Rattle.chart_marks.specs.declared.mark.NoteKind.TheVariants as note_kinds
pub use Rattle.chart_marks.specs.declared.mark.Side.{Side}
pub use Rattle.chart_marks.specs.declared.mark.Side.TheVariants.{Left, Right}
pub use Rattle.chart_marks.specs.declared.mark.Note.{Note}
pub use Rattle.chart_marks.specs.declared.mark.Doubt.{Doubt}
pub use Rattle.chart_marks.specs.declared.mark.Outage.{Outage}
pub use Rattle.chart_marks.specs.declared.mark.Parting.{Parting}
pub use Rattle.chart_marks.specs.declared.mark.Marks.{Marks}
