pub mod Bytes
pub mod Record
pub mod Written
