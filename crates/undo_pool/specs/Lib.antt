pub mod Extents
pub mod Pool
