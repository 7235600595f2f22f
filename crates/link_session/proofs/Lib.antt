pub mod OnceLemmas
pub mod Entries
