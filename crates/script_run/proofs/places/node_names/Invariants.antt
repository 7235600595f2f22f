use Rattle.std.proofs.Common.{◌≡◌, take}
use Rattle.run_rules.specs.Scripts.{names_asked}
use Rattle.script_run.proofs.places.node_names.Given as goal

abbrev pub invariant-loop-command : goal.invariant-loop-command
invariant-loop-command l = l.names.items ≡ names_asked (take l.command-index l.commands)
