pub mod Incoming
pub mod Spellable
pub mod Effects
pub mod Starts
pub mod OnDisk
pub mod Cuts
pub mod Laws
pub mod Calls
