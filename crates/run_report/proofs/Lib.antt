pub mod KnownLemmas
mod EndLemmas
mod PlaceLemmas
