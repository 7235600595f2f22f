pub mod Records
pub mod Held
pub mod Log
pub mod Calls
