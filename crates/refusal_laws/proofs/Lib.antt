pub mod LockLemmas
pub mod DoubtLemmas
pub mod ViewLemmas
pub mod CauseLemmas
pub mod FirstLemmas
pub mod LiveLemmas
pub mod AcceptedLemmas
pub mod RefusedLemmas
pub mod ApartLemmas
mod TriedMetLemmas
