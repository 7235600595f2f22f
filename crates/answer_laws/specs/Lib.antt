pub mod StatementEnds
pub mod EndLaws
pub mod LinkLaws
pub mod PendingCalls
pub mod TriedAnswers
pub mod TriedStatementEnds
