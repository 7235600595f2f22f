pub mod Holders
pub mod Met
pub mod AcceptedLaws
pub mod TriedMet
pub mod RefusedLaws
pub mod ApartLaws
