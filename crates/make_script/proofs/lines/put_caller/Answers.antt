use Rattle.make_script.proofs.Appends.{three}
use Rattle.make_script.proofs.lines.put_caller.Goals as goal

pub returns : goal.returns
returns c = three _ _ _ _ _ _ _ c.in_ok-extend_from_slice.ensures.items c.in_ok-put_node.ensures c.in_ok-extend_from_slice-2.ensures.items
