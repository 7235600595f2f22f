mod Appended
pub mod Begun
mod Cells
pub mod Logs
pub mod Moments
pub mod Settled
mod Planned
pub mod Runs
pub mod PlanLaws
mod Restarted
mod Anew
mod Stored
mod Walk
mod Left
