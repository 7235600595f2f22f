use Rattle.std.proofs.Common.{◌≡◌, take}
use Rattle.std.specs.Prelude.{fold}
use Rattle.node_memory.specs.Versions.{redone_in}
use Rattle.node_memory.proofs.versions.redo_until.Given as goal

-- with the commits so far
abbrev pub invariant-loop-version : goal.invariant-loop-version
invariant-loop-version l = l.rows.items ≡ fold (redone_in l.table l.scn) l.initial.rows.items (take l.version-index l.kept)
