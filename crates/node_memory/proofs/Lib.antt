mod VersionLaws
mod PartLaws
mod SealLaws
mod ReplayLaws
mod DoubtLaws
mod StartLaws
mod AckLaws
