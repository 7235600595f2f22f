mod BranchLaws
mod LiveLaws
mod WorkLaws
mod MarkLaws
mod NextLaws
