pub mod Handled
pub mod Ready
