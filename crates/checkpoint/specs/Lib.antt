pub mod Active
pub mod Pair
