pub mod AbortLemmas
pub mod AckStepLemmas
pub mod OnceLemmas
pub mod AckLemmas
pub mod QuietStepLemmas
pub mod QuietAskLemmas
pub mod QuietTreeLemmas
pub mod QuietLemmas
pub mod KnowLemmas
pub mod PassStepLemmas
pub mod PassAskLemmas
pub mod PassLemmas
pub mod PassRunLemmas
mod TriedQuietLemmas
mod TriedTurnsLemmas
mod TriedPassLemmas
