pub mod Parts
pub mod Words
pub mod Forms
pub mod Asked
pub mod Reading
pub mod Spelled
pub mod Sound
