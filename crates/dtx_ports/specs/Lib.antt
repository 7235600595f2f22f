pub mod Causes
pub mod Memory
pub mod Port
pub mod Whole
