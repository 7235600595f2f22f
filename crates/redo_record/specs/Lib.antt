pub mod Data
pub mod Lists
pub mod Rows
pub mod Kept
pub mod News
pub mod Order
pub mod Leaving
pub mod Durable
