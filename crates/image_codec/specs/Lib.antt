pub mod By
pub mod Kept
pub mod Order
pub mod Image
pub mod Length
