pub mod Versions
pub mod TriedVersions
