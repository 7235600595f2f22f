use Rattle.std.proofs.Common.{◌≡◌, [], take}
use Rattle.std.specs.Prelude.{filter}
use Rattle.savepoints.specs.Marks.{calls_in, is_until}
use Rattle.node_state.proofs.kept_calls.calls_until.Given as goal

-- those of the notes so far
abbrev pub invariant-loop-note : goal.invariant-loop-note
invariant-loop-note l = l.calls ≡ calls_in [] (filter (is_until l.step) (take l.note-index l.note-items))
