pub mod Format
pub mod Number
pub mod Part
pub mod Several
pub mod Choice
pub mod Reads
pub mod Example
