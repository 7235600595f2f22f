pub mod Branch
pub mod Name
pub mod Text
pub mod Value
pub mod Change
pub mod Table
pub mod Advice
pub mod Fits
