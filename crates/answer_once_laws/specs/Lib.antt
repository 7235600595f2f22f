pub mod OnceLaws
pub mod TriedOnce
