pub mod Able
pub mod Serves
pub mod Refused
