pub mod GoneLaws
pub mod ToldLaws
pub mod NeighborLaws
pub mod TriedNeighbors
pub mod TriedDropped
