pub mod Locks
pub mod Held
pub mod Numbered
pub mod ByBranch
pub mod Back
