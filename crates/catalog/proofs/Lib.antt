pub mod Titles
pub mod Apart
