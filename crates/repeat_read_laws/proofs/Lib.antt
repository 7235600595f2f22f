pub mod StayLemmas
pub mod BetweenLemmas
pub mod ReaderLemmas
pub mod BranchLemmas
pub mod TriedReadsLemmas
