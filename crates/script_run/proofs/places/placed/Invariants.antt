use Rattle.std.proofs.Common.{◌≡◌, take}
use Rattle.run_rules.specs.Scripts.{places_from}
use Rattle.script_run.proofs.places.placed.Given as goal

abbrev pub invariant-loop-command : goal.invariant-loop-command
invariant-loop-command l = l.places.items ≡ places_from l.names 1 (take l.command-index l.commands)
