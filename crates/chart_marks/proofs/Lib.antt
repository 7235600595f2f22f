mod ArrowLemmas
