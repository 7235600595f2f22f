pub mod Run
pub mod Keys
pub mod Stored
