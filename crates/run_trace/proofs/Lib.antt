mod RecordedLemmas
pub mod ExtendsLemmas
