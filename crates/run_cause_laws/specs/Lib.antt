pub mod AbortLaws
pub mod ForgetLaws
pub mod PassLaws
pub mod QuietLaws
pub mod TriedQuiet
pub mod TriedTurns
pub mod TriedPass
