pub mod NameLemmas
pub mod RowLookups
pub mod ValueOrder
