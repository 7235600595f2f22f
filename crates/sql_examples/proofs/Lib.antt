mod QueryLaws
mod StoreLemmas
mod Staff
