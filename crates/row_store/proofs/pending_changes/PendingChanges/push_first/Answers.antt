use Rattle.std.proofs.Common.{◌≡◌, ◌-◌, ◌≤◌, List, [], ◌∷◌, ◌++◌, None, sym, ap, subst, ◌∙◌}
use Rattle.std.specs.Prelude.{OnOk}
use Rattle.indexmap.proofs.CallerLemmas.{insert_entry-new}
use Rattle.tran_ids.specs.Listed.{item_at}
use Rattle.undo_book.specs.Undo.{undo_of as undo_at, undo_extents}
use Rattle.row_store.specs.declared.pending.ChangeSet.{ChangeSet}
use Rattle.row_store.specs.Own.{changes_length, extents}
use Rattle.row_store.specs.ByBranch.{PendingState, AreKept, owns_in}
use Rattle.row_store.specs.Store.{own_id, used_extents, with_set}
use Rattle.row_store.proofs.BranchLaws.{found_as}
use Rattle.row_store.proofs.KeptLaws.{Entry}
use Rattle.row_store.proofs.UndoHeld.{absent_own}
use Rattle.row_store.proofs.CallLaws.{state_in, first_fits, begun_kept, begun_state}
use Rattle.row_store.proofs.ResultLaws.{fits_ok}
use Rattle.row_store.proofs.pending_changes.PendingChanges.push_first.Goals as goal

pub unwrap-requires : goal.unwrap-requires
unwrap-requires c =
    let s = c.self.inside in
    let us = c.args.undo.now in
    let room = subst (λ (v : PendingState). extents (changes_length us) ≤ v.extents - used_extents v.owns v.doubts) (sym c.self.view_is) c.requires.room in
    fits_ok c.add.result (undo_extents (undo_at s.undo s.next ++ us) - undo_extents (undo_at s.undo s.next)) s.undo.free c.add.ensures.full
    (first_fits s.undo s.next s.owns.entries s.doubts.entries c.self.invariant us room)

pub invariant_of-self-2 : goal.invariant_of-self-2
invariant_of-self-2 c =
    let s = c.self.inside in
    let b = c.args.branch.now in
    let es = s.owns.entries in
    let ds = s.doubts.entries in
    let q = c.add.new.self in
    let vs = c.args.undo.now in
    let y = c.in_ok-sets.sets in
    let none : item_at own_id (owns_in s.undo es) b ≡ None = ap (λ (v : PendingState). item_at own_id v.owns b) c.self.view_is ∙ c.requires.none in
    let all : c.insert.new.self.entries ≡ es ++ (b, y) ∷ [] = c.in_ok-insert.ensures.entries ∙ insert_entry-new found_as s.owns b y (absent_own s.undo b es none) in
    let added : undo_at q s.next ≡ undo_at s.undo s.next ++ vs =
    subst (λ r. OnOk r (undo_at q s.next ≡ undo_at s.undo s.next ++ vs)) c.unwrap.ensures c.add.ensures.ok in
    subst (λ (fs : List Entry). AreKept q c.in_ok-next.next fs ds) (sym all)
    (begun_kept s.undo s.next es ds c.self.invariant q c.in_ok-next.next c.in_ok-next.ensures b c.args.changes vs c.len.result y c.in_ok-sets.ensures c.len.ensures c.requires.even none added
    c.add.ensures.free c.add.ensures.all c.add.ensures.others)

pub returns-clause-ok : goal.returns-clause-ok
returns-clause-ok c =
    let s = c.self.inside in
    let b = c.args.branch.now in
    let es = s.owns.entries in
    let ds = s.doubts.entries in
    let q = c.add.new.self in
    let vs = c.args.undo.now in
    let y = c.in_ok-sets.sets in
    let set : ChangeSet = record { changes = c.args.changes; undo = vs } in
    let none : item_at own_id (owns_in s.undo es) b ≡ None = ap (λ (v : PendingState). item_at own_id v.owns b) c.self.view_is ∙ c.requires.none in
    let all : c.insert.new.self.entries ≡ es ++ (b, y) ∷ [] = c.in_ok-insert.ensures.entries ∙ insert_entry-new found_as s.owns b y (absent_own s.undo b es none) in
    let added : undo_at q s.next ≡ undo_at s.undo s.next ++ vs =
    subst (λ r. OnOk r (undo_at q s.next ≡ undo_at s.undo s.next ++ vs)) c.unwrap.ensures c.add.ensures.ok in
    ap (λ (fs : List Entry). state_in q fs ds) all
    ∙ begun_state s.undo s.next es ds c.self.invariant q c.in_ok-next.next c.in_ok-next.ensures b c.args.changes vs c.len.result y c.in_ok-sets.ensures c.len.ensures c.requires.even none added
    c.add.ensures.free c.add.ensures.all c.add.ensures.others
    ∙ ap (λ (v : PendingState). record v { owns = with_set v.owns b set }) c.self.view_is
