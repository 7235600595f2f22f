mod IdOrderLemmas
mod DoubtIdLemmas
pub mod DoubtLockLemmas
pub mod StartLemmas
mod TriedStartLemmas
