use Rattle.book_laws.proofs.ScnLemmas.{every_scn_is_later}
use Rattle.book_laws.proofs.every_scn_is_later.Goals as goal

pub returns : goal.returns
returns c = every_scn_is_later
