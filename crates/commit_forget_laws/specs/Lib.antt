pub mod RowLaws
pub mod ForgetLaws
pub mod GoneLaws
pub mod TriedForget
