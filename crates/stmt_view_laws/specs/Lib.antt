pub mod Views
pub mod ViewLaws
pub mod RunLaws
pub mod TriedViews
