pub mod Distinct
pub mod Whole
