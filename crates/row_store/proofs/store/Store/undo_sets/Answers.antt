use Rattle.std.proofs.Common.{List, sym, ap, ◌∙◌}
use Rattle.row_store.specs.declared.pending.Owned.{Owned}
use Rattle.row_store.specs.Store.{Contents, without_last}
use Rattle.row_store.proofs.LessLaws.{none_back, one_back}
use Rattle.row_store.proofs.store.Store.undo_sets.Goals as goal

pub loop-init : goal.loop-init
loop-init c = ap (λ (owns : List Owned). record c.args.self.now { owns = owns }) (sym (none_back c.args.self.now.owns c.args.branch.now))

pub loop-preserved : goal.loop-preserved
loop-preserved c =
    let s = c.args.self.now in
    let b = c.args.branch.now in
    c.undo_last.ensures ∙ ap (λ (t : Contents). record t { owns = without_last t.owns b }) c.loop.invariant
    ∙ ap (λ (owns : List Owned). record s { owns = owns }) (one_back s.owns b c.loop.counter)
