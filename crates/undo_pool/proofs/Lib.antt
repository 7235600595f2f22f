pub mod Streams
mod Rooms
mod Edits
mod Windows
pub mod Packed
mod Owners
