use Rattle.make_script.proofs.Appends.{three}
use Rattle.make_script.proofs.lines.put_own_row.Goals as goal

pub returns : goal.returns
returns c = three _ _ _ _ _ _ _ c.in_ok-put_caller.ensures c.in_ok-extend_from_slice.ensures.items c.in_ok-put_values.ensures
