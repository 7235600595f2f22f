pub mod Known
pub mod Turned
pub mod Due
pub mod Facts
