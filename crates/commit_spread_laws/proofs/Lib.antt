pub mod TellStepLemmas
pub mod TellLemmas
pub mod HearLemmas
pub mod ReachLemmas
pub mod BeforeLemmas
pub mod ComeLemmas
pub mod SealLemmas
mod TriedTellingLemmas
pub mod DeliveredLemmas
pub mod GotStepLemmas
pub mod GotLeaveLemmas
pub mod GotLemmas
pub mod FirstLemmas
pub mod TreeLemmas
pub mod ComesOnceLemmas
pub mod DropLemmas
pub mod TurnStayLemmas
pub mod StayLemmas
mod TriedStayLemmas
