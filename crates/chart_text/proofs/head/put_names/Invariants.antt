-- What was added, and what the other names still add, is what all of them add.
use Rattle.std.proofs.Common.{◌≡◌, ◌+◌, ◌++◌, drop}
use Rattle.chart_text.specs.Head.{names_from}
use Rattle.chart_text.proofs.head.put_names.Given as goal

abbrev pub invariant-loop-name : goal.invariant-loop-name
invariant-loop-name l = record {
  counted : l.node ≡ l.name-index + 1;
  whole : l.shapes.items ++ names_from l.node (drop l.name-index l.names) ≡ l.initial.shapes.items ++ names_from 1 l.names;
}
