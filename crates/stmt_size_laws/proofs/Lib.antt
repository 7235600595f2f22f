pub mod TokenLengths
pub mod FitLaws
pub mod PartLengths
pub mod ChangeLengths
pub mod StatementLengths
pub mod PrintedExamples
pub mod TableLengths
