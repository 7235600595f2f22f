pub mod ByteRunLemmas
pub mod ScriptCallLemmas
pub mod DueCallLemmas
