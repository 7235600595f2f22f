pub mod Order
pub mod Stage
pub mod Views
