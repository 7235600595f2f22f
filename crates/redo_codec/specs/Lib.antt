pub mod Decision
pub mod Sealed
pub mod Record
