-- What was told, and what is still to be told, is what is told of all.
use Rattle.std.proofs.Common.{◌≡◌, ◌+◌, ◌++◌, drop}
use Rattle.chart_captions.specs.Tale.{tale_from}
use Rattle.chart_captions.proofs.captions.tale.Given as goal

abbrev pub invariant-loop-command : goal.invariant-loop-command
invariant-loop-command l = record {
  counted : l.number ≡ l.command-index + 1;
  whole : l.tale.items ++ tale_from l.names l.answers l.number (drop l.command-index l.commands) ≡ tale_from l.names l.answers 1 l.commands;
}
