use Rattle.std.proofs.Common.{◌++◌}
use Rattle.std.specs.Prelude.{codes}
use Rattle.make_script.specs.Script.{digit}
use Rattle.make_script.proofs.Appends.{four, two}
use Rattle.make_script.proofs.lines.put_loss.Goals as goal

pub returns : goal.returns
returns c =
    two c.args.out.now.items _ _ (codes "LOSE NEXT COMMITTED FROM N" ++ (digit c.args.from ++ (codes " TO N" ++ digit c.args.to))) (codes ";\n")
    (four c.args.out.now.items _ _ _ _ (codes "LOSE NEXT COMMITTED FROM N") (digit c.args.from) (codes " TO N") (digit c.args.to)
    c.in_ok-extend_from_slice.ensures.items c.in_ok-put_node.ensures c.in_ok-extend_from_slice-2.ensures.items c.in_ok-put_node-2.ensures)
    c.in_ok-extend_from_slice-3.ensures.items
