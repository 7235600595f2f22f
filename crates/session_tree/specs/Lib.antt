pub mod Live
pub mod Tree
