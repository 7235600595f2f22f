pub mod Passing
pub mod Points
