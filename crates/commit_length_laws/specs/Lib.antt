pub mod Worth
pub mod Once
pub mod FewLaws
pub mod TriedFlow
