pub mod Numbers
pub mod Counts
pub mod There
pub mod Turns
pub mod RootLaws
