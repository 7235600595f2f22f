pub mod ChainLemmas
pub mod CommitLemmas
pub mod KeptLemmas
pub mod EntryLemmas
pub mod StripLemmas
pub mod SkipLemmas
pub mod RowLemmas
