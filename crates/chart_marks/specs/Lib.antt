pub mod Data
pub mod Rows
pub mod Marks
pub mod Messages
