pub mod Endings
pub mod PlaceLemmas
pub mod ScriptLemmas
pub mod Headlines
pub mod FewLemmas
pub mod AskLemmas
mod Pieces
mod WordLemmas
mod MadeLemmas
