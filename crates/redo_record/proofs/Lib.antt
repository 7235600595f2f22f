mod InOrder
mod Searched
pub mod OrderKept
