mod EndingLemmas
mod WordLemmas
