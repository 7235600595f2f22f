pub mod ByLaws
pub mod ImageLaws
