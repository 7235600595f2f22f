pub mod SentDownLemmas
pub mod AtWorkLemmas
pub mod AtWorkStepLemmas
pub mod AtWorkRunLemmas
pub mod StatementEndLemmas
pub mod WhyEndsLemmas
pub mod CommitCallLemmas
pub mod LastCallLemmas
pub mod EndingLemmas
pub mod EndRunLemmas
pub mod LinkLemmas
pub mod LinkRunLemmas
pub mod PendingCallLemmas
pub mod AnswerPlaceLemmas
mod TriedAnswersLemmas
mod TriedStatementEndsLemmas
