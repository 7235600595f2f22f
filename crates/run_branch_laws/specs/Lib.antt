pub mod PhaseLaws
pub mod TreeJust
pub mod HeardLaws
pub mod TriedRun
pub mod TowardLaws
pub mod RowSayLaws
pub mod VoteLaws
pub mod WalkLaws
