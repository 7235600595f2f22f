pub mod Steps
pub mod StandLemmas
pub mod WayLemmas
mod ActLemmas
mod NextLemmas
pub mod TurnLemmas
pub mod RowLemmas
pub mod LiveLemmas
pub mod StepLemmas
pub mod SessionLemmas
pub mod HeardLemmas
