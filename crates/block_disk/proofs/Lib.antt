pub mod Torn
pub mod Struck
pub mod Planned
