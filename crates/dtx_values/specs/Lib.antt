pub mod Limits
pub mod Str
pub mod Name
pub mod Order
pub mod Apply
pub mod Texts
pub mod Widths
