use Rattle.std.proofs.Common.{◌≡◌, take}
use Rattle.std.specs.List.{flat_map}
use Rattle.script_read.specs.Asked.{names_made}
use Rattle.chart_run.proofs.chart.names_of.Given as goal

abbrev pub invariant-loop-command : goal.invariant-loop-command
invariant-loop-command l = l.names.items ≡ flat_map names_made (take l.command-index l.commands)
