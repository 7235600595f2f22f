pub mod PartLaws
pub mod RecordLaws
