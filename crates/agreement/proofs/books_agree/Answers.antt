use Rattle.agreement.proofs.BookLaws.{books_agree as law}
use Rattle.agreement.proofs.books_agree.Goals as goal

pub returns : goal.returns
returns c = law
