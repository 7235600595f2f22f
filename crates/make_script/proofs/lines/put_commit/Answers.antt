use Rattle.make_script.proofs.Appends.{two}
use Rattle.make_script.proofs.lines.put_commit.Goals as goal

pub returns : goal.returns
returns c = two _ _ _ _ _ c.in_ok-put_caller.ensures c.in_ok-extend_from_slice.ensures.items
