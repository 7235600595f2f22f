pub mod ByBranch
pub mod Changed
pub mod Lives
pub mod Works
pub mod Sessions
