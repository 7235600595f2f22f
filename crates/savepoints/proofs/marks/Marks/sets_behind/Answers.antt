use Rattle.std.proofs.Common.{◌≡◌, ◌+◌, ◌≤◌, take, sym, ap, arith}
use Rattle.savepoints.proofs.BehindLaws.{behind, own, behind_next, behind_low, own_all}
use Rattle.savepoints.proofs.marks.Marks.sets_behind.Goals as goal

pub returns-in_err-sets-clause-none : goal.returns-in_err-sets-clause-none
returns-in_err-sets-clause-none c none =
    let notes = c.as_slice-note-items.result.now in
    let note = c.note-item.result in
    let step = c.args.step in
    let i = c.loop-note.note-index in
    let over = c.in_err-sets.ensures in
    let so_far : c.loop-note.sets ≡ behind step (take i notes) = c.loop-note.invariant in
    let next : behind step (take (i + 1) notes) ≡ behind step (take i notes) + own step note = behind_next step notes i note c.loop-note-test.true (sym c.note-item.is) in
    let its : own step note ≡ note.sets = own_all step note c.if-note-step.true in
    let low : behind step (take (i + 1) notes) ≤ behind step notes = behind_low step (i + 1) notes in
    let all : behind step notes ≡ behind step c.args.self.now.notes = ap (behind step) c.as_slice-note-items.ensures in
    grind (arith, over, so_far, next, its, low, all)
