use Rattle.std.proofs.Common.{◌≡◌, ◌++◌, take}
use Rattle.sql_print.specs.Printing as spec
use Rattle.sql_print.proofs.pieces.put_each.Given as goal

-- what was written of the items so far
abbrev pub invariant-loop-item : goal.invariant-loop-item
invariant-loop-item g l = l.out.items ≡ l.fn.out.items ++ spec.each_text l.separator g.P.Printed.text (take l.item-index l.items)
