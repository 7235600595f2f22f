use Rattle.std.proofs.Common.{◌≡◌, ◌++◌, map, take}
use Rattle.report.specs.Report.{numbered, printed}
use Rattle.report.proofs.numbered.put_numbered.Given as goal

abbrev pub invariant-loop-line : goal.invariant-loop-line
invariant-loop-line l = l.out.items ≡ l.initial.out.items ++ printed (map (numbered l.command) (take l.line-index l.lines))
