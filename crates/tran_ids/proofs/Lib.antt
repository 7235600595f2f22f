pub mod BranchLemmas
pub mod ListedLemmas
pub mod NumberLemmas
pub mod NumberedLemmas
