use Rattle.make_script.proofs.Appends.{four}
use Rattle.make_script.proofs.lines.put_other_row.Goals as goal

pub returns : goal.returns
returns c = four _ _ _ _ _ _ _ _ _ c.in_ok-put_caller.ensures c.in_ok-extend_from_slice.ensures.items c.in_ok-put_node.ensures c.in_ok-put_values.ensures
