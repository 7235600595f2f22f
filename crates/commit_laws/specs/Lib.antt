pub mod TriedCommit
pub mod DeliveryLaws
pub mod WaitLaws
pub mod LeaveLaws
pub mod OnceLaws
pub mod StillLaws
