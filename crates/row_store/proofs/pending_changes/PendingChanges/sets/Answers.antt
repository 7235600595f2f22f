use Rattle.std.proofs.Common.{ap, ◌∙◌}
use Rattle.row_store.specs.Pending.{changes_of}
use Rattle.row_store.specs.ByBranch.{changes_kept}
use Rattle.row_store.specs.Store.{sets_at}
use Rattle.row_store.proofs.UndoHeld.{changes_there}
use Rattle.row_store.proofs.pending_changes.PendingChanges.sets.Goals as goal

pub returns : goal.returns
returns c =
    let s = c.self.inside in
    let b = c.args.branch.now in
    ap changes_kept c.get.ensures.value ∙ changes_there s.undo b s.owns.entries c.self.invariant.cut ∙ ap (λ v. changes_of (sets_at v.owns b)) c.self.view_is
