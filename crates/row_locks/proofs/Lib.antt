mod NumberLaws
mod BranchLaws
mod KeyLaws
mod FindLaws
mod MoreLaws
mod LessLaws
mod ChangedLaws
mod KeptLaws
mod MapLaws
mod LinkLaws
mod LastLaws
mod TakeLaws
mod BackLaws
pub mod Held
pub mod Holders
