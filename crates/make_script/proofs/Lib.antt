mod CalmLemmas
mod RowLemmas
mod LineLemmas
mod ScriptLemmas
mod LengthLemmas
mod Appends
mod LoopLemmas
