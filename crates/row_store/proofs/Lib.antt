pub mod AtKey
mod InOrder
mod Lookups
mod Places
mod Named
mod PlaceLaws
mod MadeLaws
mod SetLaws
mod KeyedLaws
pub mod OrderLemmas
mod Totals
mod KeptLaws
mod OrderLaws
mod ExtentLaws
mod PoolLaws
mod SealLaws
mod UndoHeld
mod Holders
mod CallLaws
mod ResultLaws
mod BranchLaws
mod HeldLaws
mod LessLaws
mod UndoLaws
mod UndoneLaws
mod ScanLaws
mod TableLaws
mod StoreLaws
pub mod SetOver
