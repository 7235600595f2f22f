pub mod Cells
pub mod Log
pub mod Gates
pub mod Plans
pub mod Runs
pub mod Calls
pub mod Stands
pub mod Restart
