pub mod Drawing
pub mod Ending
pub mod Words
