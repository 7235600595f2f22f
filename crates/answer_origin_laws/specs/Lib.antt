pub mod CallTurns
pub mod TriedCalls
pub mod ReplyLaws
pub mod LeadLaws
pub mod TriedPlace
pub mod ToldLaws
