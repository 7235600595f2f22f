use Rattle.std.proofs.Common.{List, ◌++◌, sym, ap, ◌∙◌}
use Rattle.std.specs.Map.{keys_of}
use Rattle.tran_ids.specs.declared.branch.BranchId.{BranchId}
use Rattle.row_store.specs.ByBranch.{PendingState}
use Rattle.row_store.specs.Store.{holders}
use Rattle.row_store.proofs.Holders.{holders_are}
use Rattle.row_store.proofs.pending_changes.PendingChanges.branches.Goals as goal

pub returns : goal.returns
returns c =
    let s = c.self.inside in
    let ids = sym (holders_are s.undo s.owns.entries s.doubts.entries) ∙ ap (λ (v : PendingState). holders v.owns v.doubts) c.self.view_is in
    c.in_ok-extend_from_slice.ensures.items
    ∙ (ap (λ (bs : List BranchId). bs ++ c.as_slice-2.result.now) (c.in_ok-branches.ensures.items ∙ c.as_slice.ensures ∙ c.keys.ensures.rest)
    ∙ (ap (λ (bs : List BranchId). keys_of s.owns.entries ++ bs) (c.as_slice-2.ensures ∙ c.keys-2.ensures.rest) ∙ ids))
