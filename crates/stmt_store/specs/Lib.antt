pub mod Stores
pub mod Past
