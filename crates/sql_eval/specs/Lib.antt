pub mod Data
pub mod Rows
pub mod Meaning
pub mod Found
pub mod Outcomes
pub mod Laws
