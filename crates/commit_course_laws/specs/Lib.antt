pub mod CompleteLaws
pub mod CommandCalls
pub mod TriedCourse
pub mod TriedQuiet
