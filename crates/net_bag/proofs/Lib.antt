mod FlightLemmas
mod OrderLemmas
pub mod SentLemmas
