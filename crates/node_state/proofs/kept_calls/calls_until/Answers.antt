use Rattle.std.proofs.Common.{sym, ap, ◌∙◌}
use Rattle.node_state.proofs.MarkLaws.{calls_noted, calls_passed}
use Rattle.node_state.proofs.kept_calls.calls_until.Goals.{then-note-step, else-note-step}
use Rattle.node_state.proofs.kept_calls.calls_until.Goals as goal

pub loop-note-preserved : goal.loop-note-preserved
loop-note-preserved c =
    let notes = c.as_slice-note-items.result.now in
    let i = c.loop-note.note-index in
    let note = c.note-item.result in
    elim c.if-note-step.branch [
      | then-note-step w ↦
          ap (λ calls. calls.now) w.calls-is ∙ w.as_slice-calls.ensures ∙ calls_noted c.args.step notes i note c.loop-note-test.true (sym c.note-item.is) w.if-note-step.true
      | else-note-step w ↦
          ap (λ calls. calls.now) w.calls-is ∙ c.loop-note.invariant ∙ calls_passed c.args.step notes i note c.loop-note-test.true (sym c.note-item.is) w.if-note-step.false
    ]
