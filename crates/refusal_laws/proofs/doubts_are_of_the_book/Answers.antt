use Rattle.refusal_laws.proofs.DoubtLemmas.{doubts_are_of_the_book}
use Rattle.refusal_laws.proofs.doubts_are_of_the_book.Goals as goal

pub returns : goal.returns
returns c = doubts_are_of_the_book
