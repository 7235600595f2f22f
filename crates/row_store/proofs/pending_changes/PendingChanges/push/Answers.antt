use Rattle.std.proofs.Common.{◌≡◌, ◌+◌, ◌-◌, ◌≤◌, List, [], ◌∷◌, ◌++◌, None, unwrap_or, refl, sym, ap, subst, ◌∙◌, arith}
use Rattle.std.specs.Prelude.{OnOk}
use Rattle.std.specs.Map.{lookup}
use Rattle.indexmap.specs.Layout.{set_value_at}
use Rattle.tran_ids.specs.Listed.{item_at}
use Rattle.undo_book.specs.Undo.{undo_of as undo_at, undo_extents, OthersStay}
use Rattle.row_store.specs.declared.pending.ChangeSet.{ChangeSet}
use Rattle.row_store.specs.ByBranch.{PendingState, AreKept}
use Rattle.row_store.specs.Store.{own_id, sets_of, sets_at, extents_of_sets, used_extents, with_set}
use Rattle.row_store.proofs.BranchLaws.{found_as}
use Rattle.row_store.proofs.KeptLaws.{Entry, same_set}
use Rattle.row_store.proofs.ExtentLaws.{extents_are}
use Rattle.row_store.proofs.UndoHeld.{not_there, no_own}
use Rattle.row_store.proofs.CallLaws.{state_in, extents_with, more_fits, more_kept, more_state}
use Rattle.row_store.proofs.ResultLaws.{on_err, fits_ok}
use Rattle.row_store.proofs.pending_changes.PendingChanges.push.Goals as goal

pub push_first-requires-clause-none : goal.push_first-requires-clause-none
push_first-requires-clause-none c =
    let s = c.self.inside in
    let b = c.args.branch.now in
    ap (λ (v : PendingState). item_at own_id v.owns b) (sym c.self.view_is)
    ∙ no_own s.undo b s.owns.entries (not_there (lookup (found_as b) s.owns.entries) c.in_default.ensures.found)

pub push_first-requires-clause-room : goal.push_first-requires-clause-room
push_first-requires-clause-room c =
    let s = c.self.inside in
    let b = c.args.branch.now in
    let v = c.args.self.now in
    let set : ChangeSet = record { changes = c.args.changes; undo = c.args.undo.now } in
    let none : item_at own_id v.owns b ≡ None =
    ap (λ (w : PendingState). item_at own_id w.owns b) (sym c.self.view_is)
    ∙ no_own s.undo b s.owns.entries (not_there (lookup (found_as b) s.owns.entries) c.in_default.ensures.found) in
    let room = subst (λ (sets : List ChangeSet). extents_of_sets (sets ++ set ∷ []) - extents_of_sets sets ≤ v.extents - used_extents v.owns v.doubts) (ap sets_of none) c.requires.room in
    let one = extents_with [] set [] refl in
    let is = extents_are set.undo in
    let zero : extents_of_sets [] ≡ 0 = refl in
    omega (arith, room, one, is, zero)

pub invariant_of-self : goal.invariant_of-self
invariant_of-self c =
    let s = c.self.inside in
    let es = s.owns.entries in
    let i = c.in-Some.place in
    let back = ap (set_value_at es i) c.in_err-push.ensures.err ∙ same_set es i c.index_mut.result.now c.index_mut.ensures.value in
    subst (λ (fs : List Entry). AreKept s.undo s.next fs s.doubts.entries) (sym back) c.self.invariant

pub returns-in_err-push-clause-err : goal.returns-in_err-push-clause-err
returns-in_err-push-clause-err c =
    let s = c.self.inside in
    let es = s.owns.entries in
    let i = c.in-Some.place in
    let back = ap (set_value_at es i) c.in_err-push.ensures.err ∙ same_set es i c.index_mut.result.now c.index_mut.ensures.value in
    on_err c.from_residual.result (ap (λ (fs : List Entry). state_in s.undo fs s.doubts.entries) back ∙ c.self.view_is)

pub unwrap-requires : goal.unwrap-requires
unwrap-requires c =
    let s = c.self.inside in
    let b = c.args.branch.now in
    let es = s.owns.entries in
    let ds = s.doubts.entries in
    let i = c.in-Some.place in
    let x = c.index_mut.result.now in
    let there = c.index_mut.ensures.value in
    let here = sym c.in-Some.ensures.value ∙ there in
    let at = sym c.in-Some.ensures.index in
    let owner = c.owner-owner.ensures ∙ ap (λ r. (unwrap_or r x).owner) (sym c.index.ensures ∙ there) in
    let vs = c.args.undo.now in
    let set : ChangeSet = record { changes = c.args.changes; undo = vs } in
    let room = subst (λ (v : PendingState). let sets = sets_at v.owns b in extents_of_sets (sets ++ set ∷ []) - extents_of_sets sets ≤ v.extents - used_extents v.owns v.doubts) (sym c.self.view_is) c.requires.room in
    let fits = more_fits s.undo s.next es ds c.self.invariant b i x there at here set room in
    let need = undo_extents (undo_at s.undo c.owner-owner.result ++ vs) - undo_extents (undo_at s.undo c.owner-owner.result) in
    fits_ok c.add.result need s.undo.free c.add.ensures.full
    (subst (λ n. undo_extents (undo_at s.undo n ++ vs) - undo_extents (undo_at s.undo n) ≤ s.undo.free) (sym owner) fits)

pub invariant_of-self-2 : goal.invariant_of-self-2
invariant_of-self-2 c =
    let s = c.self.inside in
    let b = c.args.branch.now in
    let es = s.owns.entries in
    let ds = s.doubts.entries in
    let i = c.in-Some.place in
    let x = c.index_mut.result.now in
    let there = c.index_mut.ensures.value in
    let here = sym c.in-Some.ensures.value ∙ there in
    let at = sym c.in-Some.ensures.index in
    let owner = c.owner-owner.ensures ∙ ap (λ r. (unwrap_or r x).owner) (sym c.index.ensures ∙ there) in
    let q = c.add.new.self in
    let vs = c.args.undo.now in
    let o = c.owner-owner.result in
    let said : undo_at q o ≡ undo_at s.undo o ++ vs = subst (λ r. OnOk r (undo_at q o ≡ undo_at s.undo o ++ vs)) c.unwrap.ensures c.add.ensures.ok in
    let added = subst (λ n. undo_at q n ≡ undo_at s.undo n ++ vs) owner said in
    let free = subst (λ n. q.free + undo_extents (undo_at q n) ≡ s.undo.free + undo_extents (undo_at s.undo n)) owner c.add.ensures.free in
    let others = subst (OthersStay s.undo q) owner c.add.ensures.others in
    more_kept s.undo s.next es ds c.self.invariant b i x there at here q c.args.changes vs c.len.result c.push.new.self c.in_ok-push.ensures.ok c.len.ensures c.requires.even
    added free c.add.ensures.all others

pub returns-clause-ok : goal.returns-clause-ok
returns-clause-ok c =
    let s = c.self.inside in
    let b = c.args.branch.now in
    let es = s.owns.entries in
    let ds = s.doubts.entries in
    let i = c.in-Some.place in
    let x = c.index_mut.result.now in
    let there = c.index_mut.ensures.value in
    let here = sym c.in-Some.ensures.value ∙ there in
    let at = sym c.in-Some.ensures.index in
    let owner = c.owner-owner.ensures ∙ ap (λ r. (unwrap_or r x).owner) (sym c.index.ensures ∙ there) in
    let q = c.add.new.self in
    let vs = c.args.undo.now in
    let o = c.owner-owner.result in
    let said : undo_at q o ≡ undo_at s.undo o ++ vs = subst (λ r. OnOk r (undo_at q o ≡ undo_at s.undo o ++ vs)) c.unwrap.ensures c.add.ensures.ok in
    let added = subst (λ n. undo_at q n ≡ undo_at s.undo n ++ vs) owner said in
    let free = subst (λ n. q.free + undo_extents (undo_at q n) ≡ s.undo.free + undo_extents (undo_at s.undo n)) owner c.add.ensures.free in
    let others = subst (OthersStay s.undo q) owner c.add.ensures.others in
    let set : ChangeSet = record { changes = c.args.changes; undo = vs } in
    more_state s.undo s.next es ds c.self.invariant b i x there at here q c.args.changes vs c.len.result c.push.new.self c.in_ok-push.ensures.ok c.len.ensures c.requires.even
    added free c.add.ensures.all others
    ∙ ap (λ (v : PendingState). record v { owns = with_set v.owns b set }) c.self.view_is
