use Rattle.book_laws.proofs.TriedBookLemmas.{the_tried_book}
use Rattle.book_laws.proofs.the_tried_book.Goals as goal

pub returns : goal.returns
returns c = the_tried_book
