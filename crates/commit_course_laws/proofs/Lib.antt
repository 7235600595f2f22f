mod SiteLemmas
pub mod CompleteLemmas
pub mod CommandLemmas
pub mod FlowLemmas
pub mod AnsweredLemmas
pub mod CourseLemmas
pub mod EarlierLemmas
pub mod ToldLemmas
pub mod SoonerLemmas
pub mod CreateFlowLemmas
pub mod CreateStepLemmas
pub mod CreateCourseLemmas
pub mod QuietLemmas
mod TriedCourseLemmas
mod TriedScriptLemmas
mod TriedQuietLemmas
