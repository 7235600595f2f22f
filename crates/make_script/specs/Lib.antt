pub mod Draws
pub mod Script
pub mod Read
pub mod Summary
