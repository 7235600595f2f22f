pub mod Net
pub mod Numbered
pub mod Parcel
pub mod Route
pub mod Texts
