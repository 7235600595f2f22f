-- What was added, and what the other names still add, is what all of them add.
use Rattle.std.proofs.Common.{◌≡◌, ◌+◌, ◌++◌, drop}
use Rattle.chart_text.specs.Layout.{lanes_from}
use Rattle.chart_text.proofs.lanes.put_lanes.Given as goal

abbrev pub invariant-loop-name : goal.invariant-loop-name
invariant-loop-name l = record {
  counted : l.node ≡ l._name-index + 1;
  whole : l.shapes.items ++ lanes_from l.window l.node (drop l._name-index l.names) ≡ l.initial.shapes.items ++ lanes_from l.window 1 l.names;
}
