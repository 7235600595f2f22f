pub mod Report
pub mod Headline
pub mod Ending
pub mod Making
pub mod Words
