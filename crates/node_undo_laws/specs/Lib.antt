pub mod Changed
pub mod Keys
pub mod Kept
pub mod Fits
pub mod Laws
pub mod TriedUndo
