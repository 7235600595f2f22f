mod PointLemmas
mod BranchLemmas
