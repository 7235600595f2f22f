-- What was added, and what the other names still add, is what all of them add.
use Rattle.std.proofs.Common.{◌≡◌, ◌+◌, ◌++◌, drop}
use Rattle.chart_text.specs.Plain.{cells}
use Rattle.chart_text.proofs.plain_text.put_cells.Given as goal

abbrev pub invariant-loop-name : goal.invariant-loop-name
invariant-loop-name l = record {
  counted : l.node ≡ l._name-index + 1;
  whole : l.out.items ++ cells l.window l.marks l.row l.node (drop l._name-index l.names) ≡ l.initial.out.items ++ cells l.window l.marks l.row 1 l.names;
}
