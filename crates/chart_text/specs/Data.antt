-- The plain data that the definitions speak of, handed on from one place. Declares nothing.
pub use Rattle.chart_marks.specs.declared.mark.Band.{Band}
pub use Rattle.chart_marks.specs.declared.mark.End.{End}
pub use Rattle.chart_marks.specs.declared.mark.End.TheVariants as ends
pub use Rattle.chart_marks.specs.declared.mark.Arrow.{Arrow}
pub use Rattle.chart_marks.specs.declared.mark.Repeat.{Repeat}
pub use Rattle.chart_marks.specs.declared.mark.NoteKind.{NoteKind}
pub use Rattle.chart_marks.specs.declared.mark.NoteKind.TheVariants as note_kinds
pub use Rattle.chart_marks.specs.declared.mark.Side.{Side}
pub use Rattle.chart_marks.specs.declared.mark.Side.TheVariants.{Left, Right}
pub use Rattle.chart_marks.specs.declared.mark.Note.{Note}
pub use Rattle.chart_marks.specs.declared.mark.Doubt.{Doubt}
pub use Rattle.chart_marks.specs.declared.mark.Outage.{Outage}
pub use Rattle.chart_marks.specs.declared.mark.Parting.{Parting}
pub use Rattle.chart_marks.specs.declared.mark.Marks.{Marks}
pub use Rattle.chart_text.specs.declared.shape.Spot.{Spot}
pub use Rattle.chart_text.specs.declared.shape.LineKind.{LineKind}
pub use Rattle.chart_text.specs.declared.shape.LineKind.TheVariants as lines
pub use Rattle.chart_text.specs.declared.shape.BarKind.{BarKind}
pub use Rattle.chart_text.specs.declared.shape.BarKind.TheVariants as bars
pub use Rattle.chart_text.specs.declared.shape.TextKind.{TextKind}
pub use Rattle.chart_text.specs.declared.shape.TextKind.TheVariants as texts
pub use Rattle.chart_text.specs.declared.shape.Shape.{Shape}
pub use Rattle.chart_text.specs.declared.shape.Shape.TheVariants as shapes
