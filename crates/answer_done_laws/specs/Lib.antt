pub mod DoneLaws
pub mod StandLaws
pub mod TriedDone
pub mod TriedTold
