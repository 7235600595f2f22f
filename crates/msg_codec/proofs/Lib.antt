mod AnswerLaws
mod KindLaws
pub mod MessageLaws
