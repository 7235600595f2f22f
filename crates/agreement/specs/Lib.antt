pub mod Data
pub mod Events
pub mod BookOf
pub mod Outcomes
pub mod Laws
pub mod Examples
