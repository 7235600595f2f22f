use Rattle.sql_print.proofs.Appends.{two}
use Rattle.sql_print.proofs.printing.put_purge_lost.Goals as goal

pub returns : goal.returns
returns c = two _ _ _ _ _ c.in_ok-extend_from_slice.ensures.items c.in_ok-put_argument.ensures
