pub mod Swapped
pub mod Taken
