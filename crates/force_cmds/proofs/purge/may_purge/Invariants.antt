use Rattle.std.proofs.Common.{◌≡◌, find, drop}
use Rattle.force_cmds.specs.Named.{may_purge}
use Rattle.force_cmds.proofs.purge.may_purge.Given as goal

abbrev pub invariant-loop-row : goal.invariant-loop-row
invariant-loop-row l = find (may_purge l.mixed l.id) l.kept ≡ find (may_purge l.mixed l.id) (drop l.row-index l.kept)
