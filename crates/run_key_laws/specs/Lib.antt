pub mod ChangedLaws
pub mod TableLaws
pub mod KeyLaws
pub mod RiseLaws
pub mod ToldLaws
pub mod OrderLaws
pub mod CommitOrderLaws
pub mod TriedRows
