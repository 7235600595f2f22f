pub mod Examined
pub mod Free
pub mod Lengths
pub mod Taken
pub mod Doubts
pub mod StoreLaws
