use Rattle.std.proofs.Common.{◌≡◌, filter, take}
use Rattle.force_cmds.specs.Named.{is_named_by, named_among}
use Rattle.force_cmds.proofs.finding.find.Given as goal

abbrev pub invariant-loop-row : goal.invariant-loop-row
invariant-loop-row l = l.found ≡ named_among (filter (is_named_by l.names l.id) (take l.row-index l.kept))
