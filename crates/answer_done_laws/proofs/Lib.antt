pub mod DoneLemmas
pub mod StandLemmas
pub mod LineStayLemmas
pub mod CallDoneLemmas
pub mod LineRunLemmas
pub mod AtOnceLemmas
pub mod CommitStepLemmas
pub mod WhilePendingLemmas
pub mod CommitEndLemmas
pub mod ReportedDoneLemmas
mod TriedDoneLemmas
mod TriedToldLemmas
