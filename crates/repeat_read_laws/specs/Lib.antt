pub mod RepeatLaws
pub mod TriedReads
