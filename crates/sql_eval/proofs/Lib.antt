mod ChangeLemmas
pub mod EachLemmas
pub mod KeyLaws
pub mod MadeLemmas
mod PutLemmas
pub mod RowLaws
mod SetLemmas
pub mod StayLaws
pub mod TableLaws
