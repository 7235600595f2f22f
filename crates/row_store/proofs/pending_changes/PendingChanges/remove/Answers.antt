use Rattle.std.proofs.Common.{◌≡◌, ◌+◌, List, [], refl, sym, ap, subst, ◌∙◌}
use Rattle.std.specs.Prelude.{MatchOption}
use Rattle.std.specs.Map.{lookup}
use Rattle.tran_ids.specs.Listed.{drop_item}
use Rattle.undo_book.specs.Undo.{undo_of as undo_at, undo_extents, OthersStay}
use Rattle.row_store.specs.Pending.{changes_of}
use Rattle.row_store.specs.ByBranch.{PendingState, AreKept, own_in}
use Rattle.row_store.specs.Store.{own_id, sets_of, sets_at}
use Rattle.row_store.proofs.BranchLaws.{found_as, dropped_is}
use Rattle.row_store.proofs.KeptLaws.{Entry}
use Rattle.row_store.proofs.PoolLaws.{left_kept, left_owns, left_doubts, sets_found, changes_are, cut_found}
use Rattle.row_store.proofs.UndoHeld.{no_own}
use Rattle.row_store.proofs.CallLaws.{state_in}
use Rattle.row_store.proofs.pending_changes.PendingChanges.remove.Goals as goal

pub returns-in_err-sets-clause-changes : goal.returns-in_err-sets-clause-changes
returns-in_err-sets-clause-changes c =
    let s = c.self.inside in
    let b = c.args.branch.now in
    let changes = changes_of (sets_at c.args.self.now.owns b) in
    let none : changes ≡ [] =
    ap (λ (v : PendingState). changes_of (sets_at v.owns b)) (sym c.self.view_is)
    ∙ ap (λ o. changes_of (sets_of o)) (no_own s.undo b s.owns.entries (sym c.in_err-sets.ensures.value)) in
    subst (λ r. MatchOption r (changes ≡ []) (λ those. those.items ≡ changes)) (sym c.from_residual.ensures) none

pub returns-in_err-sets-clause-dropped : goal.returns-in_err-sets-clause-dropped
returns-in_err-sets-clause-dropped c =
    let s = c.self.inside in
    let b = c.args.branch.now in
    let es = s.owns.entries in
    let ds = s.doubts.entries in
    let left = c.shift_remove.ensures.entries in
    let gone = sym (ap (lookup (found_as b)) left) ∙ c.shift_remove.ensures.updates.1 in
    let dropped = dropped_is (λ d z. own_in s.undo (d, z)) own_id (λ d z. refl) b es gone in
    ap (λ (fs : List Entry). state_in s.undo fs ds) left
    ∙ (λ i. let v : PendingState = record (state_in s.undo es ds) { owns = dropped i } in v)
    ∙ ap (λ (v : PendingState). record v { owns = drop_item own_id v.owns b }) c.self.view_is

pub invariant_of-self-2 : goal.invariant_of-self-2
invariant_of-self-2 c =
    let s = c.self.inside in
    let b = c.args.branch.now in
    let es = s.owns.entries in
    let ds = s.doubts.entries in
    let left = c.shift_remove.ensures.entries in
    let gone = sym (ap (lookup (found_as b)) left) ∙ c.shift_remove.ensures.updates.1 in
    let q = c.release.new.self in
    let x = c.in_ok-sets.sets in
    let here = sym c.in_ok-sets.ensures.value in
    let others = subst (OthersStay s.undo q) c.owner.ensures c.release.ensures.others in
    let empty = subst (λ o. undo_at q o ≡ []) c.owner.ensures c.release.ensures.undo in
    let free = subst (λ o. q.free ≡ s.undo.free + undo_extents (undo_at s.undo o)) c.owner.ensures c.release.ensures.free in
    subst (λ (fs : List Entry). AreKept q s.next fs ds) (sym left)
    (left_kept s.undo q s.next es ds c.self.invariant c.release.ensures.all b x here gone others empty free)

pub returns-clause-changes : goal.returns-clause-changes
returns-clause-changes c =
    let s = c.self.inside in
    let b = c.args.branch.now in
    let es = s.owns.entries in
    let x = c.in_ok-sets.sets in
    let here = sym c.in_ok-sets.ensures.value in
    c.into_changes.ensures
    ∙ sym (changes_are x (undo_at s.undo x.owner) (cut_found s.undo (found_as b) es x here c.self.invariant.cut))
    ∙ ap changes_of (sym (sets_found s.undo b es x here))
    ∙ ap (λ (v : PendingState). changes_of (sets_at v.owns b)) c.self.view_is

pub returns-clause-dropped : goal.returns-clause-dropped
returns-clause-dropped c =
    let s = c.self.inside in
    let b = c.args.branch.now in
    let es = s.owns.entries in
    let ds = s.doubts.entries in
    let left = c.shift_remove.ensures.entries in
    let gone = sym (ap (lookup (found_as b)) left) ∙ c.shift_remove.ensures.updates.1 in
    let q = c.release.new.self in
    let x = c.in_ok-sets.sets in
    let here = sym c.in_ok-sets.ensures.value in
    let others = subst (OthersStay s.undo q) c.owner.ensures c.release.ensures.others in
    let empty = subst (λ o. undo_at q o ≡ []) c.owner.ensures c.release.ensures.undo in
    let free = subst (λ o. q.free ≡ s.undo.free + undo_extents (undo_at s.undo o)) c.owner.ensures c.release.ensures.free in
    let owns = left_owns s.undo q s.next es ds c.self.invariant c.release.ensures.all b x here gone others empty free in
    let doubts = left_doubts s.undo q s.next es ds c.self.invariant c.release.ensures.all b x here gone others empty free in
    ap (λ (fs : List Entry). state_in q fs ds) left
    ∙ (λ i. let v : PendingState = record { owns = owns i; doubts = doubts i; extents = c.release.ensures.all i } in v)
    ∙ ap (λ (v : PendingState). record v { owns = drop_item own_id v.owns b }) c.self.view_is
