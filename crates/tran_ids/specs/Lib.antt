pub mod Branch
pub mod Listed
pub mod Numbers
pub mod Texts
