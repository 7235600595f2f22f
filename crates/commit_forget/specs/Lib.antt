pub mod Beyond
pub mod Next
