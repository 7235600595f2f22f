mod LiveLemmas
mod PrepareLemmas
mod AckLemmas
mod PurgeLemmas
