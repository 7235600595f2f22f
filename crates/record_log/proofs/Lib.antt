pub mod Held
mod Loaded
mod Moments
