pub mod FactLemmas
pub mod ListLemmas
pub mod BootLemmas
pub mod AtNodeLemmas
