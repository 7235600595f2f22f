mod SaidLemmas
mod TurnLemmas
mod StartLemmas
mod PlayLemmas
