pub mod OrderLemmas
pub mod AgreeLemmas
pub mod MeantLemmas
pub mod RunLemmas
pub mod TriedLemmas
