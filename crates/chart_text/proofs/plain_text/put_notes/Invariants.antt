use Rattle.std.proofs.Common.{◌≡◌, ◌++◌, take}
use Rattle.std.specs.List.{flat_map}
use Rattle.chart_text.specs.Plain.{note_in}
use Rattle.chart_text.proofs.plain_text.put_notes.Given as goal

abbrev pub invariant-loop-note : goal.invariant-loop-note
invariant-loop-note l = l.out.items ≡ l.initial.out.items ++ flat_map (note_in l.names l.row) (take l.note-index l.notes)
