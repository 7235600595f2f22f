pub mod StartLaws
pub mod TriedStart
