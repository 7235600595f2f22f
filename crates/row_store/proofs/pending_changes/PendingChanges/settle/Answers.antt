use Rattle.std.proofs.Common.{◌≡◌, ◌+◌, List, [], refl, sym, ap, subst, ◌∙◌}
use Rattle.std.specs.Prelude.{MatchOption}
use Rattle.std.specs.Map.{lookup}
use Rattle.tran_ids.specs.Listed.{item_at, drop_item}
use Rattle.undo_book.specs.Undo.{undo_of as undo_at, undo_extents, OthersStay}
use Rattle.row_store.specs.ByBranch.{PendingState, AreKept, doubt_in}
use Rattle.row_store.specs.Store.{doubt_id, held_back}
use Rattle.row_store.proofs.BranchLaws.{found_as, dropped_is}
use Rattle.row_store.proofs.KeptLaws.{Held}
use Rattle.row_store.proofs.PoolLaws.{settled_kept, settled_owns, settled_doubts}
use Rattle.row_store.proofs.UndoHeld.{no_doubt, held_there}
use Rattle.row_store.proofs.CallLaws.{state_in}
use Rattle.row_store.proofs.pending_changes.PendingChanges.settle.Goals as goal

pub returns-in_err-held-clause-changes : goal.returns-in_err-held-clause-changes
returns-in_err-held-clause-changes c =
    let s = c.self.inside in
    let b = c.args.branch.now in
    let changes = held_back (item_at doubt_id c.args.self.now.doubts b) in
    let none : changes ≡ [] =
    ap (λ (v : PendingState). held_back (item_at doubt_id v.doubts b)) (sym c.self.view_is)
    ∙ ap held_back (no_doubt s.undo b s.doubts.entries (sym c.in_err-held.ensures.value)) in
    subst (λ r. MatchOption r (changes ≡ []) (λ those. those.items ≡ changes)) (sym c.from_residual.ensures) none

pub returns-in_err-held-clause-dropped : goal.returns-in_err-held-clause-dropped
returns-in_err-held-clause-dropped c =
    let s = c.self.inside in
    let b = c.args.branch.now in
    let es = s.owns.entries in
    let ds = s.doubts.entries in
    let left = c.shift_remove.ensures.entries in
    let gone = sym (ap (lookup (found_as b)) left) ∙ c.shift_remove.ensures.updates.1 in
    let dropped = dropped_is (λ d z. doubt_in s.undo (d, z)) doubt_id (λ d z. refl) b ds gone in
    ap (λ (fs : List Held). state_in s.undo es fs) left
    ∙ (λ i. let v : PendingState = record (state_in s.undo es ds) { doubts = dropped i } in v)
    ∙ ap (λ (v : PendingState). record v { doubts = drop_item doubt_id v.doubts b }) c.self.view_is

pub invariant_of-self-2 : goal.invariant_of-self-2
invariant_of-self-2 c =
    let s = c.self.inside in
    let b = c.args.branch.now in
    let es = s.owns.entries in
    let ds = s.doubts.entries in
    let left = c.shift_remove.ensures.entries in
    let gone = sym (ap (lookup (found_as b)) left) ∙ c.shift_remove.ensures.updates.1 in
    let q = c.release.new.self in
    let x = c.in_ok-held.held in
    let here = sym c.in_ok-held.ensures.value in
    let others = subst (OthersStay s.undo q) c.owner.ensures c.release.ensures.others in
    let empty = subst (λ o. undo_at q o ≡ []) c.owner.ensures c.release.ensures.undo in
    let free = subst (λ o. q.free ≡ s.undo.free + undo_extents (undo_at s.undo o)) c.owner.ensures c.release.ensures.free in
    subst (λ (fs : List Held). AreKept q s.next es fs) (sym left)
    (settled_kept s.undo q s.next es ds c.self.invariant c.release.ensures.all b x here gone others empty free)

pub returns-clause-changes : goal.returns-clause-changes
returns-clause-changes c =
    let s = c.self.inside in
    let b = c.args.branch.now in
    c.into_changes.ensures
    ∙ held_there s.undo b s.doubts.entries c.in_ok-held.held (sym c.in_ok-held.ensures.value)
    ∙ ap (λ (v : PendingState). held_back (item_at doubt_id v.doubts b)) c.self.view_is

pub returns-clause-dropped : goal.returns-clause-dropped
returns-clause-dropped c =
    let s = c.self.inside in
    let b = c.args.branch.now in
    let es = s.owns.entries in
    let ds = s.doubts.entries in
    let left = c.shift_remove.ensures.entries in
    let gone = sym (ap (lookup (found_as b)) left) ∙ c.shift_remove.ensures.updates.1 in
    let q = c.release.new.self in
    let x = c.in_ok-held.held in
    let here = sym c.in_ok-held.ensures.value in
    let others = subst (OthersStay s.undo q) c.owner.ensures c.release.ensures.others in
    let empty = subst (λ o. undo_at q o ≡ []) c.owner.ensures c.release.ensures.undo in
    let free = subst (λ o. q.free ≡ s.undo.free + undo_extents (undo_at s.undo o)) c.owner.ensures c.release.ensures.free in
    let owns = settled_owns s.undo q s.next es ds c.self.invariant c.release.ensures.all b x here gone others empty free in
    let doubts = settled_doubts s.undo q s.next es ds c.self.invariant c.release.ensures.all b x here gone others empty free in
    ap (λ (fs : List Held). state_in q es fs) left
    ∙ (λ i. let v : PendingState = record { owns = owns i; doubts = doubts i; extents = c.release.ensures.all i } in v)
    ∙ ap (λ (v : PendingState). record v { doubts = drop_item doubt_id v.doubts b }) c.self.view_is
