use Rattle.make_script.proofs.script.put_first_lines.Goals as goal

pub returns : goal.returns
returns c = c.in_ok-extend_from_slice.ensures.items
