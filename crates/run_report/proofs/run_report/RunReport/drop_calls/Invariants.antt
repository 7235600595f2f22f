-- The calls to come end as all do.
use Rattle.std.proofs.Common.{◌≡◌}
use Rattle.std.specs.Vec.Iter.{into_iter_items}
use Rattle.run_report.specs.Known.{calls_fall}
use Rattle.run_report.proofs.run_report.RunReport.drop_calls.Given as goal

abbrev pub invariant-loop-key : goal.invariant-loop-key
invariant-loop-key l = record {
  tells : calls_fall l.running l.self l.node l.name (into_iter_items l.key-iterator) ≡ calls_fall l.running l.initial.self l.node l.name l.fn.keys.items;
  before : l.self.lines ≡ l.initial.self.lines;
}
