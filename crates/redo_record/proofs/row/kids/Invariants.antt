use Rattle.std.proofs.Common.{◌≡◌, map, take}
use Rattle.redo_record.specs.Rows.{kid_of}
use Rattle.redo_record.proofs.row.kids.Given as goal

abbrev pub invariant-loop-peer : goal.invariant-loop-peer
invariant-loop-peer l = l.kids.items ≡ map kid_of (take l.peer-index l.peers)
