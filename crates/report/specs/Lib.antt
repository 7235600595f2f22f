pub mod Rows
pub mod Bytes
pub mod Refusals
pub mod Answers
pub mod Report
