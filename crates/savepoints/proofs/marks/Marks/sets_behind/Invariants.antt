use Rattle.std.proofs.Common.{◌≡◌, take}
use Rattle.savepoints.proofs.BehindLaws.{behind}
use Rattle.savepoints.proofs.marks.Marks.sets_behind.Given as goal

-- those of the notes so far
abbrev pub invariant-loop-note : goal.invariant-loop-note
invariant-loop-note l = l.sets ≡ behind l.step (take l.note-index l.note-items)
