-- The printed lines of the answers of a run, handed on. Declares nothing.
pub use Rattle.report.specs.Rows.{row_text, rows_text, counted}
pub use Rattle.report.specs.Refusals.{refusal_text}
pub use Rattle.report.specs.Answers.{done_text, answer_text, notice_text}
pub use Rattle.report.specs.Report.{said_text, numbered, line_text}
unfoldable pub use Rattle.report.specs.Report.{report}
