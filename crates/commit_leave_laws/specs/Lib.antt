pub mod StrayLaws
pub mod CallLaws
pub mod TriedStray
