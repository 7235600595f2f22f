use Rattle.std.proofs.Common.{◌≡◌, ◌+◌, subst, ap, ◌∙◌}
use Rattle.row_store.specs.ByBranch.{PendingState, owns_in, doubts_in}
use Rattle.row_store.specs.Store.{used_extents}
use Rattle.row_store.proofs.pending_changes.PendingChanges.free.Goals as goal

pub returns : goal.returns
returns c =
    let s = c.self.inside in
    subst (λ (v : PendingState). c.free.result + used_extents v.owns v.doubts ≡ v.extents) c.self.view_is
    (ap (λ n. n + used_extents (owns_in s.undo s.owns.entries) (doubts_in s.undo s.doubts.entries)) c.free.ensures ∙ c.self.invariant.used)
