pub mod Statement
pub mod Answer
pub mod Kind
pub mod Message
pub mod Fits
