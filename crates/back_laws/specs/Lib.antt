pub mod Returns
pub mod BackLaws
pub mod Floors
pub mod TriedBack
pub mod LiveTree
