use Rattle.row_store.proofs.UndoneLaws.{all_back}
use Rattle.row_store.proofs.laws.undo_gives_the_rows.Goals as goal

pub returns : goal.returns
returns c = all_back
