pub mod WellLemmas
pub mod WellDraftLemmas
pub mod WellStepLemmas
pub mod WellRunLemmas
pub mod LeftTrailLemmas
pub mod HeldLemmas
pub mod ChainLemmas
pub mod AboveLemmas
pub mod ListedLemmas
pub mod StandLemmas
pub mod StepLemmas
pub mod SentLemmas
pub mod StayLemmas
pub mod RootPathLemmas
pub mod FoundLemmas
pub mod OnWalkLemmas
pub mod CommitPlanLemmas
pub mod NeighborLemmas
mod TriedNeighborLemmas
mod TriedDroppedLemmas
