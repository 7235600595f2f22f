pub mod ReadyRuns
pub mod CountLaws
