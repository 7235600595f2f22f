use Rattle.book_laws.proofs.TriedBookRowsLemmas.{the_tried_forced_rows}
use Rattle.book_laws.proofs.the_tried_forced_rows.Goals as goal

pub returns : goal.returns
returns c = the_tried_forced_rows
