mod FindLemmas
mod RangeLemmas
mod ZipLemmas
mod GivenLemmas
