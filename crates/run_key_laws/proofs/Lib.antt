pub mod LockLemmas
pub mod ChangedLemmas
pub mod RanLemmas
pub mod TableLemmas
pub mod TableStepLemmas
pub mod DoubtLemmas
pub mod TableRunLemmas
pub mod RiseLemmas
pub mod KeyRunLemmas
pub mod KeyFreeLemmas
pub mod ToldLemmas
pub mod BookRowLemmas
pub mod BookRunLemmas
pub mod OrderLemmas
pub mod CommitOrderLemmas
mod TriedRowsLemmas
