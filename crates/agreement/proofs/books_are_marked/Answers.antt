use Rattle.agreement.proofs.BookLaws.{books_are_marked as law}
use Rattle.agreement.proofs.books_are_marked.Goals as goal

pub returns : goal.returns
returns c = law
