-- The calls to come end as all do.
use Rattle.std.proofs.Common.{◌≡◌}
use Rattle.std.specs.Vec.Iter.{into_iter_items}
use Rattle.run_rules.specs.Calls.{finished}
use Rattle.run_report.proofs.run_report.RunReport.end_calls.Given as goal

abbrev pub invariant-loop-done : goal.invariant-loop-done
invariant-loop-done l = record {
  tells : finished l.running l.self l.node (into_iter_items l.done-iterator) ≡ finished l.running l.initial.self l.node l.fn.ended;
  before : l.self.lines ≡ l.initial.self.lines;
}
