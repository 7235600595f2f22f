pub mod GivenColumns
pub mod AdviceLaws
pub mod BranchRows
pub mod ViewLaws
pub mod ReportedViews
pub mod TriedViews
