pub mod BeyondLemmas
