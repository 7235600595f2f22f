-- The lines so far.
use Rattle.std.proofs.Common.{◌≡◌, ◌++◌, map}
use Rattle.run_rules.specs.Lines.{line}
use Rattle.run_report_parts.proofs.page.add_own.Given as goal

abbrev pub invariant-loop-said : goal.invariant-loop-said
invariant-loop-said l = l.lines.items ≡ l.initial.lines.items ++ map (line l.command) l.yielded
