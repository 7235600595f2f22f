use Rattle.std.proofs.Common.{◌≡◌, ◌+◌, ◌-◌, ◌≤◌, List, None, length, unwrap_or, sym, ap, subst, ◌∙◌, arith}
use Rattle.std.specs.Map.{lookup}
use Rattle.indexmap.specs.Layout.{set_value_at}
use Rattle.tran_ids.specs.Listed.{item_at}
use Rattle.undo_book.specs.Undo.{undo_text, undo_of as undo_at, undo_extents, whole_in, OthersStay}
use Rattle.row_store.specs.ByBranch.{PendingState, AreKept}
use Rattle.row_store.specs.Store.{own_id, less_last, without_last}
use Rattle.row_store.proofs.BranchLaws.{found_as}
use Rattle.row_store.proofs.KeptLaws.{Entry, same_set}
use Rattle.row_store.proofs.UndoHeld.{not_there, no_own}
use Rattle.row_store.proofs.CallLaws.{state_in, none_less, less_fits, keep_whole, less_kept, less_state}
use Rattle.row_store.proofs.pending_changes.PendingChanges.pop.Goals as goal

pub returns-in_default : goal.returns-in_default
returns-in_default c =
    let s = c.self.inside in
    let b = c.args.branch.now in
    let none : item_at own_id c.args.self.now.owns b ≡ None =
    ap (λ (v : PendingState). item_at own_id v.owns b) (sym c.self.view_is)
    ∙ no_own s.undo b s.owns.entries (not_there (lookup (found_as b) s.owns.entries) c.in_default.ensures.found) in
    ap (λ o. record c.args.self.now { owns = less_last c.args.self.now.owns o }) (sym none)

pub invariant_of-self : goal.invariant_of-self
invariant_of-self c =
    let s = c.self.inside in
    let es = s.owns.entries in
    let i = c.in-Some.place in
    let back = ap (set_value_at es i) c.in_default-pop.ensures.sets ∙ same_set es i c.index_mut.result.now c.index_mut.ensures.value in
    subst (λ (fs : List Entry). AreKept s.undo s.next fs s.doubts.entries) (sym back) c.self.invariant

pub returns-in_default-pop : goal.returns-in_default-pop
returns-in_default-pop c =
    let s = c.self.inside in
    let b = c.args.branch.now in
    let es = s.owns.entries in
    let i = c.in-Some.place in
    let x = c.index_mut.result.now in
    let there = c.index_mut.ensures.value in
    let here = sym c.in-Some.ensures.value ∙ there in
    let back = ap (set_value_at es i) c.in_default-pop.ensures.sets ∙ same_set es i x there in
    let less = none_less s.undo s.next es s.doubts.entries c.self.invariant b i x there (sym c.in-Some.ensures.index) here c.in_default-pop.ensures.sizes in
    ap (λ (fs : List Entry). state_in s.undo fs s.doubts.entries) back
    ∙ (λ j. let v : PendingState = record (state_in s.undo es s.doubts.entries) { owns = sym less j } in v)
    ∙ ap (λ (v : PendingState). record v { owns = without_last v.owns b }) c.self.view_is

pub overflow_sub-keep : goal.overflow_sub-keep
overflow_sub-keep c =
    let s = c.self.inside in
    let b = c.args.branch.now in
    let es = s.owns.entries in
    let ds = s.doubts.entries in
    let i = c.in-Some.place in
    let x = c.index_mut.result.now in
    let there = c.index_mut.ensures.value in
    let here = sym c.in-Some.ensures.value ∙ there in
    let at = sym c.in-Some.ensures.index in
    let owner = c.owner-owner.ensures ∙ ap (λ r. (unwrap_or r x).owner) (sym c.index.ensures ∙ there) in
    let n = c.in-Some-pop.size in
    let y = c.pop.new.self in
    let sizes = c.in-Some-pop.ensures.sizes in
    let y_is = c.in-Some-pop.ensures.sets in
    let len : c.len.result ≡ length (undo_text (undo_at s.undo x.owner)) = c.len.ensures ∙ ap (λ o. length (undo_text (undo_at s.undo o))) owner in
    let fits = less_fits s.undo s.next es ds c.self.invariant b i x there at here s.undo y.sizes n sizes y y_is in
    subst (λ m. n.undo ≤ m) (sym len) fits

pub cut-requires : goal.cut-requires
cut-requires c =
    let s = c.self.inside in
    let b = c.args.branch.now in
    let es = s.owns.entries in
    let ds = s.doubts.entries in
    let i = c.in-Some.place in
    let x = c.index_mut.result.now in
    let there = c.index_mut.ensures.value in
    let here = sym c.in-Some.ensures.value ∙ there in
    let at = sym c.in-Some.ensures.index in
    let owner = c.owner-owner.ensures ∙ ap (λ r. (unwrap_or r x).owner) (sym c.index.ensures ∙ there) in
    let n = c.in-Some-pop.size in
    let y = c.pop.new.self in
    let sizes = c.in-Some-pop.ensures.sizes in
    let y_is = c.in-Some-pop.ensures.sets in
    let len : c.len.result ≡ length (undo_text (undo_at s.undo x.owner)) = c.len.ensures ∙ ap (λ o. length (undo_text (undo_at s.undo o))) owner in
    let fits = less_fits s.undo s.next es ds c.self.invariant b i x there at here s.undo y.sizes n sizes y y_is in
    let keep = c.len.result - n.undo in
    let keep_is : keep + n.undo ≡ length (undo_text (undo_at s.undo x.owner)) = omega (arith, len, fits) in
    subst (λ o. length (undo_text (whole_in keep (undo_at s.undo o))) ≡ keep) (sym owner)
    (keep_whole s.undo s.next es ds c.self.invariant b i x there at here s.undo y.sizes n sizes y y_is keep keep_is)

pub invariant_of-self-2 : goal.invariant_of-self-2
invariant_of-self-2 c =
    let s = c.self.inside in
    let b = c.args.branch.now in
    let es = s.owns.entries in
    let ds = s.doubts.entries in
    let i = c.in-Some.place in
    let x = c.index_mut.result.now in
    let there = c.index_mut.ensures.value in
    let here = sym c.in-Some.ensures.value ∙ there in
    let at = sym c.in-Some.ensures.index in
    let owner = c.owner-owner.ensures ∙ ap (λ r. (unwrap_or r x).owner) (sym c.index.ensures ∙ there) in
    let n = c.in-Some-pop.size in
    let y = c.pop.new.self in
    let sizes = c.in-Some-pop.ensures.sizes in
    let y_is = c.in-Some-pop.ensures.sets in
    let len : c.len.result ≡ length (undo_text (undo_at s.undo x.owner)) = c.len.ensures ∙ ap (λ o. length (undo_text (undo_at s.undo o))) owner in
    let fits = less_fits s.undo s.next es ds c.self.invariant b i x there at here s.undo y.sizes n sizes y y_is in
    let keep = c.len.result - n.undo in
    let keep_is : keep + n.undo ≡ length (undo_text (undo_at s.undo x.owner)) = omega (arith, len, fits) in
    let q = c.cut.new.self in
    let kept = subst (λ o. undo_at q o ≡ whole_in keep (undo_at s.undo o)) owner c.cut.ensures.undo in
    let free = subst (λ o. q.free + undo_extents (undo_at q o) ≡ s.undo.free + undo_extents (undo_at s.undo o)) owner c.cut.ensures.free in
    let others = subst (OthersStay s.undo q) owner c.cut.ensures.others in
    less_kept s.undo s.next es ds c.self.invariant b i x there at here q y.sizes n sizes y y_is keep keep_is kept free c.cut.ensures.all others

pub returns : goal.returns
returns c =
    let s = c.self.inside in
    let b = c.args.branch.now in
    let es = s.owns.entries in
    let ds = s.doubts.entries in
    let i = c.in-Some.place in
    let x = c.index_mut.result.now in
    let there = c.index_mut.ensures.value in
    let here = sym c.in-Some.ensures.value ∙ there in
    let at = sym c.in-Some.ensures.index in
    let owner = c.owner-owner.ensures ∙ ap (λ r. (unwrap_or r x).owner) (sym c.index.ensures ∙ there) in
    let n = c.in-Some-pop.size in
    let y = c.pop.new.self in
    let sizes = c.in-Some-pop.ensures.sizes in
    let y_is = c.in-Some-pop.ensures.sets in
    let len : c.len.result ≡ length (undo_text (undo_at s.undo x.owner)) = c.len.ensures ∙ ap (λ o. length (undo_text (undo_at s.undo o))) owner in
    let fits = less_fits s.undo s.next es ds c.self.invariant b i x there at here s.undo y.sizes n sizes y y_is in
    let keep = c.len.result - n.undo in
    let keep_is : keep + n.undo ≡ length (undo_text (undo_at s.undo x.owner)) = omega (arith, len, fits) in
    let q = c.cut.new.self in
    let kept = subst (λ o. undo_at q o ≡ whole_in keep (undo_at s.undo o)) owner c.cut.ensures.undo in
    let free = subst (λ o. q.free + undo_extents (undo_at q o) ≡ s.undo.free + undo_extents (undo_at s.undo o)) owner c.cut.ensures.free in
    let others = subst (OthersStay s.undo q) owner c.cut.ensures.others in
    less_state s.undo s.next es ds c.self.invariant b i x there at here q y.sizes n sizes y y_is keep keep_is kept free c.cut.ensures.all others
    ∙ ap (λ (v : PendingState). record v { owns = without_last v.owns b }) c.self.view_is
