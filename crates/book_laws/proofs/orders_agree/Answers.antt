use Rattle.book_laws.proofs.RowLemmas.{orders_agree}
use Rattle.book_laws.proofs.orders_agree.Goals as goal

pub returns : goal.returns
returns c = orders_agree
