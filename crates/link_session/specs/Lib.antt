pub mod Calls
pub mod Once
pub mod Opens
pub mod Keyed
