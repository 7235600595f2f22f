pub mod Marks
pub mod TriedMarks
